-- An entry opens: channel and session agree on it, at the later of its moment and that of the entry before.
use Rattle.std.proofs.Common.{◌≡◌, ◌+◌, ◌&&◌, ◌∷◌, ap, refl, sym, ◌∙◌, Bool, true, false, List, [], Some, ℕ, if◌then◌else◌, is_none}
use Rattle.std.proofs.lemmas.Bool.{and_parts}
use Rattle.std.proofs.lemmas.Simd.{map-map}
use Rattle.std.specs.Prelude.{length, map, max}
use Rattle.channel_actions.proofs.Moved.{agrees_moved}
use Rattle.channel_actions.specs.Agrees.{Agrees}
use Rattle.channel_actions.specs.Columns.{links_noted}
use Rattle.channel_actions.specs.Points.{AtRest}
use Rattle.channel_actions.specs.Stages.{Openings}
use Rattle.channel_core.specs.Applying.{begun_at}
use Rattle.channel_core.specs.States.{StateSeen}
use Rattle.grpc_base.specs.declared.event.Event.{Event}
use Rattle.channel_actions.proofs.KeptSessions.Beside.{kept_opened}
use Rattle.session_actions.specs.Closing.{noted_gone}
use Rattle.session_actions.specs.Entries.{entry, last_moment, opened, opened_entry}
use Rattle.session_actions.specs.Refusals.{is_gone}
use Rattle.session_actions.specs.Sessions.{link_seen}
use Rattle.session_actions.specs.declared.link.Link.{Link}
use Rattle.session_actions.specs.declared.seen.Seen.{Seen}

-- a link that passes a test, stamped with an entry unless it was before
abbrev pub stamp : (Link → Bool) → ℕ → Link → Link
stamp test n l = if is_none l.gone && test l then record l { gone = Some n } else l

unstamped_by : (test : Link → Bool) (n m : ℕ) (l : Link) (b : Bool) → (is_none l.gone && test l) ≡ b → stamp test n l ≡ l → stamp test m l ≡ l
unstamped_by test n m l true e same =
    let stamped : record l { gone = Some n } ≡ l = sym (ap (λ (b : Bool). if b then record l { gone = Some n } else l) e) ∙ same in
    let bad : false ≡ true = ap (λ (k : Link). is_none k.gone) stamped ∙ (and_parts (is_none l.gone) (test l) e).0 in
    absurd (cc)
unstamped_by test n m l false e same = ap (λ (b : Bool). if b then record l { gone = Some m } else l) e

head_is : {X : Type 0} (x y : X) (xs ys : List X) → x ∷ xs ≡ y ∷ ys → x ≡ y
head_is x y xs ys e = cc

tail_is : {X : Type 0} (x y : X) (xs ys : List X) → x ∷ xs ≡ y ∷ ys → xs ≡ ys
tail_is x y xs ys e = cc

pub unstamped : (test : Link → Bool) (n m : ℕ) (ls : List Link) → map (stamp test n) ls ≡ ls → map (stamp test m) ls ≡ ls
unstamped test n m [] e = refl
unstamped test n m (l ∷ ls) e =
    let here : stamp test m l ≡ l = unstamped_by test n m l (is_none l.gone && test l) refl (head_is (stamp test n l) l (map (stamp test n) ls) ls e) in
    let rest : map (stamp test m) ls ≡ ls = unstamped test n m ls (tail_is (stamp test n l) l (map (stamp test n) ls) ls e) in
    ap (λ (k : Link). k ∷ map (stamp test m) ls) here ∙ ap (λ (ks : List Link). l ∷ ks) rest

-- the links as the ledger has them, where none is to be stamped
pub noted_is : (s : Seen) → map (noted_gone s) s.links ≡ s.links → links_noted s ≡ map link_seen s.links
noted_is s e = sym (map-map link_seen (noted_gone s) s.links) ∙ ap (map link_seen) e

module _ (x : StateSeen) (s : Seen) (posted word : ℕ) (e : Event) (h : AtRest x s) where
  pub opens : Agrees (begun_at (length s.entries + 1) (max (last_moment s) posted) word x) (opened posted word e s)
  opens =
      agrees_moved s s.entries (Some (opened_entry posted word e s)) s.answered s.wants x h.agrees (length s.entries + 1) (max (last_moment s) posted) word 0
      x.resolver x.unconfigured refl
      (record { entry_is = refl; moment = refl; draws = (refl, refl) }) h.agrees.configs.unconfigured
      (noted_is (opened posted word e s) (unstamped (λ l. is_gone l s) (entry s) (length s.entries + 1) s.links h.noted)
      ∙ sym (noted_is s h.noted) ∙ h.agrees.columns.links)
      (kept_opened posted word e s h.between h.agrees.kept)

pub openings : Openings
openings x s posted word e h = opens x s posted word e h
