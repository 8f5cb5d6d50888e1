-- The acts of a call, followed one by one: what each leaves of the channel.
use Rattle.std.proofs.Common.{◌≡◌, ◌∷◌, ◌++◌, append-nil, append_assoc, ap, refl, subst, sym, ◌∙◌, Bool, true, false, List, [], Option, None, Some, ℕ, if◌then◌else◌, map}
use Rattle.std.specs.List.{AllByRecursion}
use Rattle.channel_actions.specs.ActsFollowed.Followed.{all_given_up, all_out_gone, all_queue_gone, given_up_in, out_gone, queue_gone}
use Rattle.attempt_ledger.specs.declared.ledger.LinkSeen.{LinkSeen}
use Rattle.attempt_ledger.specs.declared.row.Row.{Row}
use Rattle.call_core.specs.Steps.{given_up_act, reported_all}
use Rattle.call_core.specs.declared.act.CallAct.{CallAct}
use Rattle.call_core.specs.declared.act.CallAct.TheVariants as act
use Rattle.call_core.specs.declared.live.LiveRow.{LiveRow}
use Rattle.channel_core.specs.Books.{link_of}
use Rattle.channel_core.specs.States.{StateSeen}
use Rattle.channel_core.specs.Steps.{act_done, acts_done, cut_on, is_gone, reset_on, with_ledger_links}
use Rattle.channel_core.specs.Tables.{numbered}
use Rattle.ledger_stamps.specs.Steps.{changed_at, gone_link}
use Rattle.picker_gate.specs.Pairs.{is_same}
use Rattle.std.specs.Set.{remove_key}

-- the acts by which rows are given up
abbrev pub given : LiveRow → CallAct
given r = given_up_act r.place r.link

pub reported_is : (live : List LiveRow) (acts : List CallAct) → reported_all None live acts ≡ acts ++ map given live
reported_is [] acts = sym (append-nil acts)
reported_is (r ∷ live) acts = reported_is live (acts ++ given r ∷ []) ∙ append_assoc acts (given r ∷ []) (map given live)

pub done_append : (n : ℕ) (xs ys : List CallAct) (x : StateSeen) → acts_done n (xs ++ ys) x ≡ acts_done n ys (acts_done n xs x)
done_append n [] ys x = refl
done_append n (a ∷ xs) ys x = done_append n xs ys (act_done n a x)

-- the parts that they change
abbrev pub parts_of : StateSeen → StateSeen → StateSeen
parts_of y x = record x {
  links = y.links;
  resets = y.resets;
  outstanding = y.outstanding;
  queue = y.queue;
  ready_waiters = y.ready_waiters;
  awaiting_config = y.awaiting_config;
  fail_fast = y.fail_fast;
  book = record x.book { ledger = record x.book.ledger { links = y.book.ledger.links } };
}

form_by : (ls : List LinkSeen) (b : Bool) (z x : StateSeen) → z ≡ parts_of z x → (if b then with_ledger_links ls z else z) ≡ parts_of (if b then with_ledger_links ls z else z) x
form_by ls true z x e = ap (with_ledger_links ls) e
form_by ls false z x e = e

act_form : (n : ℕ) (a : CallAct) (x : StateSeen) → act_done n a x ≡ parts_of (act_done n a x) x
act_form n (act.Cut row) x =
    let link : ℕ = link_of (numbered x.book.ledger.rows row) in
    let z : StateSeen = record (reset_on link row x) { outstanding = remove_key (is_same (link, row)) x.outstanding } in
    form_by (changed_at (gone_link z.book.ledger.entry) z.book.ledger.links link) (is_gone link z) z x refl
act_form n (act.Drop row) x = refl
act_form n (act.Queue row) x = refl
act_form n (act.End why) x = refl

pub acts_form : (n : ℕ) (acts : List CallAct) (x : StateSeen) → acts_done n acts x ≡ parts_of (acts_done n acts x) x
acts_form n [] x = refl
acts_form n (a ∷ acts) x =
    let y : StateSeen = act_done n a x in
    acts_form n acts y ∙ ap (parts_of (acts_done n acts y)) (act_form n a x)

-- one row is given up
abbrev pub link_list : Option ℕ → List ℕ
link_list None = []
link_list (Some link) = link ∷ []

abbrev pub links_of : List LiveRow → List ℕ
links_of [] = []
links_of (r ∷ rows) = link_list r.link ++ links_of rows

abbrev pub LinkIn : List Row → ℕ → Option ℕ → Type 0
LinkIn rows place None = Unit {0}
LinkIn rows place (Some link) = link_of (numbered rows place) ≡ link

pub record IsDone (n : ℕ) (live : List LiveRow) (x y : StateSeen) : Type 0 where
  pub links : y.links ≡ all_given_up live x.links
  pub resets : y.resets ≡ x.resets ++ links_of live
  pub outstanding : y.outstanding ≡ all_out_gone live x.outstanding
  pub queue : y.queue ≡ all_queue_gone n live x.queue
  pub ready_waiters : y.ready_waiters ≡ all_queue_gone n live x.ready_waiters
  pub awaiting_config : y.awaiting_config ≡ x.awaiting_config
  pub fail_fast : y.fail_fast ≡ x.fail_fast
  pub rows : y.book.ledger.rows ≡ x.book.ledger.rows

record IsOne (n row : ℕ) (o : Option ℕ) (x y : StateSeen) : Type 0 where
  links : y.links ≡ given_up_in row o x.links
  resets : y.resets ≡ x.resets ++ link_list o
  outstanding : y.outstanding ≡ out_gone row o x.outstanding
  queue : y.queue ≡ queue_gone n row o x.queue
  ready_waiters : y.ready_waiters ≡ queue_gone n row o x.ready_waiters
  awaiting_config : y.awaiting_config ≡ x.awaiting_config
  fail_fast : y.fail_fast ≡ x.fail_fast
  rows : y.book.ledger.rows ≡ x.book.ledger.rows

stamp_one : (n row link : ℕ) (ls : List LinkSeen) (x z : StateSeen) (b : Bool) → IsOne n row (Some link) x z → IsOne n row (Some link) x (if b then with_ledger_links ls z else z)
stamp_one n row link ls x z true k = record {
  links = k.links;
  resets = k.resets;
  outstanding = k.outstanding;
  queue = k.queue;
  ready_waiters = k.ready_waiters;
  awaiting_config = k.awaiting_config;
  fail_fast = k.fail_fast;
  rows = k.rows;
}
stamp_one n row link ls x z false k = k

one_by : (n row : ℕ) (o : Option ℕ) (x : StateSeen) → LinkIn x.book.ledger.rows row o → IsOne n row o x (act_done n (given_up_act row o) x)
one_by n row None x e = record { links = refl; resets = sym (append-nil x.resets); outstanding = refl; queue = refl; ready_waiters = refl; awaiting_config = refl; fail_fast = refl; rows = refl }
one_by n row (Some link) x e =
    let z : StateSeen = record (reset_on link row x) { outstanding = remove_key (is_same (link, row)) x.outstanding } in
    let one : IsOne n row (Some link) x (cut_on link row x)
    = stamp_one n row link (changed_at (gone_link z.book.ledger.entry) z.book.ledger.links link) x z (is_gone link z)
    (record { links = refl; resets = refl; outstanding = refl; queue = refl; ready_waiters = refl; awaiting_config = refl; fail_fast = refl; rows = refl }) in
    subst (λ (k : ℕ). IsOne n row (Some link) x (cut_on k row x)) (sym e) one

pub all_done : (n : ℕ) (live : List LiveRow) (x : StateSeen) → AllByRecursion (λ (r : LiveRow). LinkIn x.book.ledger.rows r.place r.link) live
    → IsDone n live x (acts_done n (map given live) x)
all_done n [] x all =
    record { links = refl; resets = sym (append-nil x.resets); outstanding = refl; queue = refl; ready_waiters = refl; awaiting_config = refl; fail_fast = refl; rows = refl }
all_done n (r ∷ live) x all =
    let y : StateSeen = act_done n (given r) x in
    let one : IsOne n r.place r.link x y = one_by n r.place r.link x all.0 in
    let next : AllByRecursion (λ (q : LiveRow). LinkIn y.book.ledger.rows q.place q.link) live
    = subst (λ (rows : List Row). AllByRecursion (λ (q : LiveRow). LinkIn rows q.place q.link) live) (sym one.rows) all.1 in
    let rest : IsDone n live y (acts_done n (map given live) y) = all_done n live y next in
    record {
      links = rest.links ∙ ap (all_given_up live) one.links;
      resets = rest.resets ∙ ap (λ (ls : List ℕ). ls ++ links_of live) one.resets ∙ append_assoc x.resets (link_list r.link) (links_of live);
      outstanding = rest.outstanding ∙ ap (all_out_gone live) one.outstanding;
      queue = rest.queue ∙ ap (all_queue_gone n live) one.queue;
      ready_waiters = rest.ready_waiters ∙ ap (all_queue_gone n live) one.ready_waiters;
      awaiting_config = rest.awaiting_config ∙ one.awaiting_config;
      fail_fast = rest.fail_fast ∙ one.fail_fast;
      rows = rest.rows ∙ one.rows;
    }
