-- Each write into the ledger is one of its entry, and such writes compose.
use Rattle.std.proofs.Common.{◌≡◌, ℕ, Option, Some, None, List, [], ◌∷◌, ◌++◌, refl, sym, ◌∙◌}
use Rattle.grpc_base.specs.declared.kind.Kind.{Kind}
use Rattle.attempt_ledger.specs.declared.ledger.Ask.{Ask}
use Rattle.attempt_ledger.specs.declared.ledger.CallEnd.{CallEnd}
use Rattle.attempt_ledger.specs.declared.ledger.CallSeen.{CallSeen}
use Rattle.attempt_ledger.specs.declared.ledger.Generation.{Generation}
use Rattle.attempt_ledger.specs.declared.ledger.Ledger.{Ledger}
use Rattle.attempt_ledger.specs.declared.ledger.LinkSeen.{LinkSeen}
use Rattle.attempt_ledger.specs.declared.row.Placed.{Placed}
use Rattle.attempt_ledger.specs.declared.row.Row.{Row}
use Rattle.attempt_ledger.specs.declared.row.RowEnd.{RowEnd}
use Rattle.ledger_stamps.specs.Later.{Grown, Later, LaterAsks, LaterCall, LaterCalls, LaterGeneration, LaterGenerations, LaterLink, LaterLinks, LaterRow, LaterRows, NewCall, NewGeneration, NewLink, NewRow, RowStamps, Written, blank_row}
use Rattle.ledger_stamps.specs.Steps.{activated_generation, begun_call, changed_at, committed_row, configured_call, ended_call, ended_row, gone_link, new_generation, new_link, noted_call, placed_row, read_link, retired_generation, streamed_row}
use Rattle.ledger_stamps.proofs.Growth.{grown_at, grown_more, grown_same, grown_then, written_same, written_stamped, written_then}

-- rows
pub row_same : (n : ℕ) (r : Row) → LaterRow n r r
row_same n r = record {
  call = refl;
  number = refl;
  kind = refl;
  due = refl;
  stamps = record {
    placed = written_same (λ p. p.entry) n r.placed;
    stream = written_same (λ s. n) n r.stream;
    ended = written_same (λ e. e.entry) n r.ended;
    committed = written_same (λ e. e) n r.committed;
  };
}

stamps_then : (n : ℕ) (a b c : Row) → RowStamps n a b → RowStamps n b c → RowStamps n a c
stamps_then n a b c first second = record {
  placed = written_then (λ p. p.entry) n a.placed b.placed c.placed first.placed second.placed;
  stream = written_then (λ s. n) n a.stream b.stream c.stream first.stream second.stream;
  ended = written_then (λ e. e.entry) n a.ended b.ended c.ended first.ended second.ended;
  committed = written_then (λ e. e) n a.committed b.committed c.committed first.committed second.committed;
}

pub row_then : (n : ℕ) (a b c : Row) → LaterRow n a b → LaterRow n b c → LaterRow n a c
row_then n a b c first second = record {
  call = second.call ∙ first.call;
  number = second.number ∙ first.number;
  kind = second.kind ∙ first.kind;
  due = second.due ∙ first.due;
  stamps = stamps_then n a b c first.stamps second.stamps;
}

pub row_new : (n : ℕ) (a b : Row) → NewRow n a → LaterRow n a b → NewRow n b
row_new n a b first second =
    let t : RowStamps n (blank_row a) b = stamps_then n (blank_row a) a b first.stamps second.stamps in
    record {
      call = refl;
      number = refl;
      kind = refl;
      due = refl;
      stamps = record { placed = t.placed; stream = t.stream; ended = t.ended; committed = t.committed };
    }

-- calls
pub call_same : (n : ℕ) (c : CallSeen) → LaterCall n c c
call_same n c = record {
  begun = refl;
  configured = written_same (λ e. e) n c.configured;
  made = grown_same (λ x y. y ≡ x) (λ e. e ≡ n) c.made (λ x. refl);
  end = written_same (λ e. e.entry) n c.end;
}

pub call_then : (n : ℕ) (a b c : CallSeen) → LaterCall n a b → LaterCall n b c → LaterCall n a c
call_then n a b c first second = record {
  begun = second.begun ∙ first.begun;
  configured = written_then (λ e. e) n a.configured b.configured c.configured first.configured second.configured;
  made = grown_then (λ x y. y ≡ x) (λ e. e ≡ n) a.made b.made c.made (λ x y z one two. two ∙ one) (λ x y one two. two ∙ one) first.made second.made;
  end = written_then (λ e. e.entry) n a.end b.end c.end first.end second.end;
}

pub call_new : (n : ℕ) (a b : CallSeen) → NewCall n a → LaterCall n a b → NewCall n b
call_new n a b first second = call_then n (record { begun = n; configured = None; made = []; end = None }) a b first second

-- generations and links
pub generation_same : (n : ℕ) (g : Generation) → LaterGeneration n g g
generation_same n g = record { kind = refl; activated = written_same (λ e. e) n g.activated; retired = written_same (λ e. e) n g.retired }

pub generation_then : (n : ℕ) (a b c : Generation) → LaterGeneration n a b → LaterGeneration n b c → LaterGeneration n a c
generation_then n a b c first second = record {
  kind = second.kind ∙ first.kind;
  activated = written_then (λ e. e) n a.activated b.activated c.activated first.activated second.activated;
  retired = written_then (λ e. e) n a.retired b.retired c.retired first.retired second.retired;
}

pub generation_new : (n : ℕ) (a b : Generation) → NewGeneration n a → LaterGeneration n a b → NewGeneration n b
generation_new n a b first second =
    let t : LaterGeneration n (record { kind = a.kind; activated = None; retired = None }) b =
    generation_then n (record { kind = a.kind; activated = None; retired = None }) a b first second in
    record { kind = refl; activated = t.activated; retired = t.retired }

pub link_same : (n : ℕ) (l : LinkSeen) → LaterLink n l l
link_same n l = record { sub = refl; up = refl; gone = written_same (λ e. e) n l.gone }

pub link_then : (n : ℕ) (a b c : LinkSeen) → LaterLink n a b → LaterLink n b c → LaterLink n a c
link_then n a b c first second = record {
  sub = second.sub ∙ first.sub;
  up = second.up ∙ first.up;
  gone = written_then (λ e. e) n a.gone b.gone c.gone first.gone second.gone;
}

pub link_new : (n : ℕ) (a b : LinkSeen) → NewLink n a → LaterLink n a b → NewLink n b
link_new n a b first second =
    let t : LaterLink n (record { sub = a.sub; up = n; gone = None; read = 0 }) b =
    link_then n (record { sub = a.sub; up = n; gone = None; read = 0 }) a b first second in
    record { sub = refl; up = t.up; gone = t.gone }

-- a whole ledger
pub rows_same : (n : ℕ) (rows : List Row) → LaterRows n rows rows
rows_same n rows = grown_same (LaterRow n) (NewRow n) rows (row_same n)

pub calls_same : (n : ℕ) (calls : List CallSeen) → LaterCalls n calls calls
calls_same n calls = grown_same (LaterCall n) (NewCall n) calls (call_same n)

pub asks_same : (n : ℕ) (asks : List Ask) → LaterAsks n asks asks
asks_same n asks = grown_same (λ x y. y ≡ x) (λ ask. ask.entry ≡ n) asks (λ x. refl)

pub generations_same : (n : ℕ) (generations : List Generation) → LaterGenerations n generations generations
generations_same n generations = grown_same (LaterGeneration n) (NewGeneration n) generations (generation_same n)

pub links_same : (n : ℕ) (links : List LinkSeen) → LaterLinks n links links
links_same n links = grown_same (LaterLink n) (NewLink n) links (link_same n)

pub later_same : (n : ℕ) (l : Ledger) → Later n l l
later_same n l = record {
  rows = rows_same n l.rows;
  calls = calls_same n l.calls;
  asks = asks_same n l.asks;
  generations = generations_same n l.generations;
  links = links_same n l.links;
}

pub later_then : (n : ℕ) (a b c : Ledger) → Later n a b → Later n b c → Later n a c
later_then n a b c first second = record {
  rows = grown_then (LaterRow n) (NewRow n) a.rows b.rows c.rows (row_then n) (row_new n) first.rows second.rows;
  calls = grown_then (LaterCall n) (NewCall n) a.calls b.calls c.calls (call_then n) (call_new n) first.calls second.calls;
  asks = grown_then (λ x y. y ≡ x) (λ ask. ask.entry ≡ n) a.asks b.asks c.asks (λ x y z one two. two ∙ one) (λ x y one two. (cc)) first.asks second.asks;
  generations = grown_then (LaterGeneration n) (NewGeneration n) a.generations b.generations c.generations (generation_then n) (generation_new n) first.generations second.generations;
  links = grown_then (LaterLink n) (NewLink n) a.links b.links c.links (link_then n) (link_new n) first.links second.links;
}

-- each write
pub row_added : (n : ℕ) (rows : List Row) (row : Row) → NewRow n row → LaterRows n rows (rows ++ row ∷ [])
row_added n rows row fresh = grown_more (LaterRow n) (NewRow n) rows row (row_same n) fresh

pub row_placed : (n : ℕ) (rows : List Row) (place : ℕ) (p : Placed) → p.entry ≡ n → LaterRows n rows (changed_at (placed_row p) rows place)
row_placed n rows place p e =
    grown_at (LaterRow n) (NewRow n) (placed_row p) rows place (row_same n) (λ r. record {
      call = refl;
      number = refl;
      kind = refl;
      due = refl;
      stamps = record {
        placed = written_stamped (λ q. q.entry) n p r.placed e;
        stream = written_same (λ s. n) n r.stream;
        ended = written_same (λ q. q.entry) n r.ended;
        committed = written_same (λ q. q) n r.committed;
      };
    })

pub row_streamed : (n : ℕ) (rows : List Row) (place stream : ℕ) → LaterRows n rows (changed_at (streamed_row stream) rows place)
row_streamed n rows place stream =
    grown_at (LaterRow n) (NewRow n) (streamed_row stream) rows place (row_same n) (λ r. record {
      call = refl;
      number = refl;
      kind = refl;
      due = refl;
      stamps = record {
        placed = written_same (λ q. q.entry) n r.placed;
        stream = written_stamped (λ s. n) n stream r.stream refl;
        ended = written_same (λ q. q.entry) n r.ended;
        committed = written_same (λ q. q) n r.committed;
      };
    })

pub row_ended : (n : ℕ) (rows : List Row) (place : ℕ) (end : RowEnd) → end.entry ≡ n → LaterRows n rows (changed_at (ended_row end) rows place)
row_ended n rows place end e =
    grown_at (LaterRow n) (NewRow n) (ended_row end) rows place (row_same n) (λ r. record {
      call = refl;
      number = refl;
      kind = refl;
      due = refl;
      stamps = record {
        placed = written_same (λ q. q.entry) n r.placed;
        stream = written_same (λ s. n) n r.stream;
        ended = written_stamped (λ q. q.entry) n end r.ended e;
        committed = written_same (λ q. q) n r.committed;
      };
    })

pub row_committed : (n : ℕ) (rows : List Row) (place : ℕ) → LaterRows n rows (changed_at (committed_row n) rows place)
row_committed n rows place =
    grown_at (LaterRow n) (NewRow n) (committed_row n) rows place (row_same n) (λ r. record {
      call = refl;
      number = refl;
      kind = refl;
      due = refl;
      stamps = record {
        placed = written_same (λ q. q.entry) n r.placed;
        stream = written_same (λ s. n) n r.stream;
        ended = written_same (λ q. q.entry) n r.ended;
        committed = written_stamped (λ q. q) n n r.committed refl;
      };
    })

pub call_begun : (n : ℕ) (calls : List CallSeen) → LaterCalls n calls (calls ++ begun_call n ∷ [])
call_begun n calls = grown_more (LaterCall n) (NewCall n) calls (begun_call n) (call_same n) (call_same n (begun_call n))

pub call_configured : (n : ℕ) (calls : List CallSeen) (call : ℕ) → LaterCalls n calls (changed_at (configured_call n) calls call)
call_configured n calls call =
    grown_at (LaterCall n) (NewCall n) (configured_call n) calls call (call_same n) (λ c. record {
      begun = refl;
      configured = written_stamped (λ q. q) n n c.configured refl;
      made = grown_same (λ x y. y ≡ x) (λ q. q ≡ n) c.made (λ x. refl);
      end = written_same (λ q. q.entry) n c.end;
    })

pub call_noted : (n : ℕ) (calls : List CallSeen) (call : ℕ) → LaterCalls n calls (changed_at (noted_call n) calls call)
call_noted n calls call =
    grown_at (LaterCall n) (NewCall n) (noted_call n) calls call (call_same n) (λ c. record {
      begun = refl;
      configured = written_same (λ q. q) n c.configured;
      made = grown_more (λ x y. y ≡ x) (λ q. q ≡ n) c.made n (λ x. refl) refl;
      end = written_same (λ q. q.entry) n c.end;
    })

pub call_ended : (n : ℕ) (calls : List CallSeen) (call : ℕ) (end : CallEnd) → end.entry ≡ n → LaterCalls n calls (changed_at (ended_call end) calls call)
call_ended n calls call end e =
    grown_at (LaterCall n) (NewCall n) (ended_call end) calls call (call_same n) (λ c. record {
      begun = refl;
      configured = written_same (λ q. q) n c.configured;
      made = grown_same (λ x y. y ≡ x) (λ q. q ≡ n) c.made (λ x. refl);
      end = written_stamped (λ q. q.entry) n end c.end e;
    })

pub ask_added : (n : ℕ) (asks : List Ask) (ask : Ask) → ask.entry ≡ n → LaterAsks n asks (asks ++ ask ∷ [])
ask_added n asks ask e = grown_more (λ x y. y ≡ x) (λ a. a.entry ≡ n) asks ask (λ x. refl) e

pub generation_added : (n : ℕ) (generations : List Generation) (kind : Kind) → LaterGenerations n generations (generations ++ new_generation kind ∷ [])
generation_added n generations kind =
    grown_more (LaterGeneration n) (NewGeneration n) generations (new_generation kind) (generation_same n) (generation_same n (new_generation kind))

pub generation_activated : (n : ℕ) (generations : List Generation) (generation : ℕ) → LaterGenerations n generations (changed_at (activated_generation n) generations generation)
generation_activated n generations generation =
    grown_at (LaterGeneration n) (NewGeneration n) (activated_generation n) generations generation (generation_same n)
    (λ g. record { kind = refl; activated = written_stamped (λ q. q) n n g.activated refl; retired = written_same (λ q. q) n g.retired })

pub generation_retired : (n : ℕ) (generations : List Generation) (generation : ℕ) → LaterGenerations n generations (changed_at (retired_generation n) generations generation)
generation_retired n generations generation =
    grown_at (LaterGeneration n) (NewGeneration n) (retired_generation n) generations generation (generation_same n)
    (λ g. record { kind = refl; activated = written_same (λ q. q) n g.activated; retired = written_stamped (λ q. q) n n g.retired refl })

pub link_added : (n : ℕ) (links : List LinkSeen) (sub : ℕ) → LaterLinks n links (links ++ new_link sub n ∷ [])
link_added n links sub = grown_more (LaterLink n) (NewLink n) links (new_link sub n) (link_same n) (link_same n (new_link sub n))

pub link_gone : (n : ℕ) (links : List LinkSeen) (link : ℕ) → LaterLinks n links (changed_at (gone_link n) links link)
link_gone n links link =
    grown_at (LaterLink n) (NewLink n) (gone_link n) links link (link_same n)
    (λ l. record { sub = refl; up = refl; gone = written_stamped (λ q. q) n n l.gone refl })

pub link_read : (n : ℕ) (links : List LinkSeen) (link read : ℕ) → LaterLinks n links (changed_at (read_link read) links link)
link_read n links link read =
    grown_at (LaterLink n) (NewLink n) (read_link read) links link (link_same n)
    (λ l. record { sub = refl; up = refl; gone = written_same (λ q. q) n l.gone })
