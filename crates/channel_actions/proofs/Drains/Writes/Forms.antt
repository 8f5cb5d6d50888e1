-- What a frame that is written changes: the traffic of its link, the stream of an attempt, and the answer of the entry.
use Rattle.std.proofs.Common.{◌≡◌, ◌++◌, ◌∷◌, ◌==◌, ap, refl, subst, sym, ◌∙◌, Bool, true, false, List, [], Option, None, Some, ℕ, zero, suc, if◌then◌else◌, slice_get, slice_set}
use Rattle.std.specs.Option.{option_map, option_map_or}
use Rattle.channel_actions.specs.DrainWrites.Laws.{RowsAgree, IsRow}
use Rattle.h2_frame.specs.Frames.{FrameSeen}
use Rattle.h2_frame.specs.Numbers.{headers_type}
use Rattle.session_actions.specs.Attempts.{with_attempt}
use Rattle.session_actions.specs.Words.{changed, changed_if, numbered}
use Rattle.session_actions.specs.Writing.{frame_written, frame_written_on, stream_opened, stream_opened_by, waiting_on, with_stream, with_written_bytes}
use Rattle.session_actions.specs.declared.attempt.Attempt.{Attempt}
use Rattle.session_actions.specs.declared.entry.OpenEntry.{OpenEntry}
use Rattle.session_actions.specs.declared.link.Link.{Link}
use Rattle.session_actions.specs.declared.link.Sent.{Sent}
use Rattle.session_actions.specs.declared.link.Sent.TheVariants as sent
use Rattle.session_actions.specs.declared.link.Traffic.TheVariants as traffic
use Rattle.session_actions.specs.declared.seen.Seen.{Seen}

-- rows
pub rows_self : (xs : List Attempt) → RowsAgree xs xs
rows_self [] = tt
rows_self (a ∷ xs) = (refl, rows_self xs)

row_join : (a b c : Attempt) → IsRow a b → IsRow b c → IsRow a c
row_join a b c e f = f ∙ ap (λ (z : Attempt). record z { row = record z.row { stream = c.row.stream } }) e

pub rows_join : (as_ bs cs : List Attempt) → RowsAgree as_ bs → RowsAgree bs cs → RowsAgree as_ cs
rows_join [] [] [] f g = tt
rows_join (a ∷ as_) (b ∷ bs) (c ∷ cs) f g = (row_join a b c f.0 g.0, rows_join as_ bs cs f.1 g.1)
rows_join [] (b ∷ bs) cs f g = absurd f
rows_join (a ∷ as_) [] cs f g = absurd f
rows_join [] [] (c ∷ cs) f g = absurd g
rows_join (a ∷ as_) (b ∷ bs) [] f g = absurd g

rows_set : (n : ℕ) (xs : List Attempt) (i : ℕ) (x : Attempt) → slice_get xs i ≡ Some x → RowsAgree xs (slice_set xs i (with_stream n x))
rows_set n [] i x e = tt
rows_set n (y ∷ xs) zero x e = let one : x ≡ y = (cc) in (ap (with_stream n) one, rows_self xs)
rows_set n (y ∷ xs) (suc i) x e = (refl, rows_set n xs i x e)

rows_if : (n : ℕ) (xs : List Attempt) (i : ℕ) (o : Option Attempt) → slice_get xs i ≡ o → RowsAgree xs (changed_if (with_stream n) (suc i) xs o)
rows_if n xs i None e = rows_self xs
rows_if n xs i (Some x) e = rows_set n xs i x e

rows_changed : (n place : ℕ) (xs : List Attempt) → RowsAgree xs (changed (with_stream n) place xs)
rows_changed n zero xs = rows_self xs
rows_changed n (suc i) xs = rows_if n xs i (slice_get xs i) refl

-- the stream that is opened
pub record IsOpened (s t : Seen) : Type 0 where
  pub is : t ≡ record s { attempts = t.attempts }
  pub rows : RowsAgree s.attempts t.attempts

opened_by : (f : FrameSeen) (s : Seen) (o : Option Attempt) → IsOpened s (option_map_or (λ (a : Attempt). with_attempt (with_stream f.stream) a.place s) o s)
opened_by f s None = record { is = refl; rows = rows_self s.attempts }
opened_by f s (Some a) = record { is = refl; rows = rows_changed f.stream a.place s.attempts }

opened_if : (f : FrameSeen) (l : Link) (s : Seen) (b : Bool) → IsOpened s (if b then stream_opened f l s else s)
opened_if f l s true = opened_by f s (slice_get (waiting_on l s) 0)
opened_if f l s false = record { is = refl; rows = rows_self s.attempts }

opened_so : (x : Sent) (l : Link) (s : Seen) → IsOpened s (stream_opened_by x l s)
opened_so sent.Preface l s = record { is = refl; rows = rows_self s.attempts }
opened_so (sent.Frame f) l s = opened_if f l s (f.kind == headers_type)

-- the whole
abbrev pub sent_on : Sent → Link → Link
sent_on x l = record l { traffic = l.traffic ++ traffic.Written x ∷ [] }

pub record IsForm (x : Sent) (l : Link) (s : Seen) (o : OpenEntry) (t : Seen) : Type 0 where
  pub is : t ≡ record s { attempts = t.attempts; links = changed (sent_on x) l.number s.links; current = Some (with_written_bytes x o) }
  pub rows : RowsAgree s.attempts t.attempts

form_on : (x : Sent) (l : Link) (s : Seen) (o : OpenEntry) → s.current ≡ Some o → (t : Seen) → IsOpened s t
    → IsForm x l s o (record t { links = changed (sent_on x) l.number t.links; current = option_map (with_written_bytes x) t.current })
form_on x l s o open_ t is = record {
  is = ap (λ (z : Seen). record z { links = changed (sent_on x) l.number z.links; current = option_map (with_written_bytes x) z.current }) is.is
      ∙ ap (λ (c : Option OpenEntry). record s { attempts = t.attempts; links = changed (sent_on x) l.number s.links; current = option_map (with_written_bytes x) c }) open_;
  rows = is.rows;
}

pub written_form : (x : Sent) (l : Link) (s : Seen) (o : OpenEntry) → numbered s.links l.number ≡ Some l → s.current ≡ Some o → IsForm x l s o (frame_written l.number x s)
written_form x l s o at open_ =
    let e : frame_written l.number x s ≡ frame_written_on x s l = ap (λ (q : Option Link). option_map_or (frame_written_on x s) q s) at in
    subst (IsForm x l s o) (sym e) (form_on x l s o open_ (stream_opened_by x l s) (opened_so x l s))
