-- What the session makes of its subchannels after its lists changed is what the net makes of its own: those of no list are shut, and each address of the
-- lists without a live one gets one.
use Rattle.std.proofs.Common.{◌≡◌, ◌+◌, ◌∷◌, ◌++◌, ◌||◌, ◌&&◌, ◌==◌, not, ap, arith, refl, subst, sym, ◌∙◌, Bool, true, false, List, [], Option, None, Some, ℕ, if◌then◌else◌, is_none, is_some, length, cond, map, length-append}
use Rattle.std.proofs.lemmas.Bool.{eqb-true}
use Rattle.std.proofs.lemmas.List.{length-map}
use Rattle.std.proofs.lemmas.List.Folds.{list_any-append}
use Rattle.std.specs.List.{filter, list_any, position_from}
use Rattle.std.specs.Option.{option_map}
use Rattle.std.specs.Prelude.{find}
use Rattle.grpc_base.specs.Addresses.{IsWithoutRepeats, has_address}
use Rattle.grpc_base.specs.declared.address.Address.{Address}
use Rattle.grpc_base.specs.declared.event.Conn.{Conn}
use Rattle.grpc_base.specs.declared.event.Conn.TheVariants as conn
use Rattle.channel_net.specs.Lists.{link_of, live_links}
use Rattle.channel_net.specs.declared.links.OwnLink.{OwnLink}
use Rattle.net_actions.proofs.Adding.{add_from, added, grown_if, is_lacking, next_sub}
use Rattle.net_actions.proofs.Dialling.{no_link}
use Rattle.net_actions.proofs.KeptBoards.{added_board, added_kept, grown_board_if, is_wanted, turned}
use Rattle.net_actions.proofs.Noting.{with_subs}
use Rattle.net_actions.proofs.Running.{IsQuiet}
use Rattle.net_actions.proofs.Shutting.{HaveNumbers, none_unlisted, shut_from, shut_if, shut_one}
use Rattle.net_actions.proofs.Subs.{found_same}
use Rattle.net_actions.proofs.Views.{live_same, shut_same}
use Rattle.net_actions.specs.Runs.{RunsTo}
use Rattle.net_actions.specs.Sees.{SubchannelsAgree, IsSub, NoneBeyond}
use Rattle.session_actions.specs.Policies.{is_live_sub, is_same_address, listed}
use Rattle.session_actions.specs.Subchannels.{is_unlisted, new_sub}
use Rattle.session_actions.specs.declared.entry.OpenEntry.{OpenEntry}
use Rattle.session_actions.specs.declared.seen.Seen.{Seen}
use Rattle.session_actions.specs.declared.subchannel.Subchannel.{Subchannel}
use Rattle.subchannel.proofs.NumberLaws.{numbered-afterwards, one-longer, one-moved}
use Rattle.subchannel.specs.Boards.{has_live, is_live_at, kept, kept_or_shut, lacking, passes, passes_test}
use Rattle.subchannel.specs.Records.{SubRecord, is_live, is_shut, shut_down}
use Rattle.subchannel.specs.Records as records

-- the link of a subchannel after those of the shut ones went
none_cond : (x : Bool) → ◌≡◌ {A = Option ℕ} None (cond x None None)
none_cond true = refl
none_cond false = refl

abbrev named : ℕ → OwnLink → Bool
named k own = own.sub == k

abbrev of_link : Option OwnLink → Option ℕ
of_link o = option_map (λ (own : OwnLink). own.link) o

filtered_by : (k : ℕ) (own : OwnLink) (rest : List OwnLink) (e : Option OwnLink) (t x y : Bool) → (own.sub == k) ≡ t → (t ≡ true → x ≡ y)
    → of_link (find (named k) rest) ≡ cond y (of_link e) None
    → of_link (find (named k) (cond x (own ∷ rest) rest)) ≡ cond y (of_link (cond t (Some own) e)) None
filtered_by k own rest e true true true here one next = ap (λ (b : Bool). of_link (cond b (Some own) (find (named k) rest))) here
filtered_by k own rest e true false false here one next = next
filtered_by k own rest e true true false here one next = absurd (let bad : true ≡ false = one refl in let no_one : ⊥ = (cc) in no_one)
filtered_by k own rest e true false true here one next = absurd (let bad : false ≡ true = one refl in let no_one : ⊥ = (cc) in no_one)
filtered_by k own rest e false true y here one next = ap (λ (b : Bool). of_link (cond b (Some own) (find (named k) rest))) here ∙ next
filtered_by k own rest e false false y here one next = next

filtered : (p : ℕ → Bool) (links : List OwnLink) (k : ℕ) → link_of (filter (λ (own : OwnLink). p own.sub) links) k ≡ cond (p k) (link_of links k) None
filtered p [] k = none_cond (p k)
filtered p (own ∷ links) k =
    filtered_by k own (filter (λ (x : OwnLink). p x.sub) links) (find (named k) links) (own.sub == k) (p own.sub) (p k) refl
    (λ e. ap p (eqb-true own.sub k e)) (filtered p links k)

-- whether a subchannel is in no list
unlisted_as : (a : Address) (xs : List Address) → list_any (is_same_address a) xs ≡ has_address xs a
unlisted_as a [] = refl
unlisted_as a (x ∷ xs) =
    ap (λ (b : Bool). (b && (a.port == x.port)) || list_any (is_same_address a) xs) (turned a.ip x.ip)
    ∙ ap (λ (b : Bool). ((x.ip == a.ip) && b) || list_any (is_same_address a) xs) (turned a.port x.port)
    ∙ ap (λ (b : Bool). ((x.ip == a.ip) && (x.port == a.port)) || b) (unlisted_as a xs)

module _ (s : Seen) (current pending : List Address) (list : listed s ≡ current ++ pending) where
  unlisted_same : (b : Subchannel) (r : SubRecord) (n : ℕ) (link : Option ℕ) → IsSub b r n link
      → is_unlisted s b ≡ (is_live r && not (is_wanted current pending r.address))
  unlisted_same b r n link is =
      ap (λ (x : Bool). not x && not (list_any (is_same_address b.address) (listed s))) (shut_same b.state)
      ∙ ap (λ (c : Conn). not (is_shut c) && not (list_any (is_same_address b.address) (listed s))) is.state
      ∙ ap (λ (l : List Address). is_live r && not (list_any (is_same_address b.address) l)) list
      ∙ ap (λ (x : Bool). is_live r && not x) (list_any-append (is_same_address b.address) current pending)
      ∙ ap (λ (x : Bool). is_live r && not (x || list_any (is_same_address b.address) pending)) (unlisted_as b.address current)
      ∙ ap (λ (x : Bool). is_live r && not (has_address current b.address || x)) (unlisted_as b.address pending)
      ∙ ap (λ (a : Address). is_live r && not (is_wanted current pending a)) is.address

-- one that was shut before has no link
shut_has_none : (b : Subchannel) (a : Address) (c : Conn) (dials : ℕ) (again until : Option ℕ) (linked : Bool) (n : ℕ) (link : Option ℕ)
    → IsSub b (record { address = a; state = c; dials = dials; again = again; until = until; linked = linked }) n link → not (is_shut c) ≡ false → link ≡ None
shut_has_none b a conn.Shutdown dials again until linked n link is e = no_link link (is.linked ∙ is.shape.1)
shut_has_none b a conn.Idle dials again until linked n link is e = absurd (cc)
shut_has_none b a conn.Connecting dials again until linked n link is e = absurd (cc)
shut_has_none b a conn.Ready dials again until linked n link is e = absurd (cc)
shut_has_none b a conn.Failure dials again until linked n link is e = absurd (cc)

stays_by : (b : Subchannel) (r : SubRecord) (n : ℕ) (link : Option ℕ) (live : Bool) → is_live r ≡ live → IsSub b r n link → IsSub b r n (cond live link None)
stays_by b r n link true e is = is
stays_by b r n link false e is =
    subst (λ (o : Option ℕ). IsSub b r n o) (shut_has_none b r.address r.state r.dials r.again r.until r.linked n link is e) is

kept_by : (b : Subchannel) (r : SubRecord) (n : ℕ) (link : Option ℕ) (x : Bool) → IsSub b r n link
    → IsSub (shut_if x b) (if x then shut_down r else r) n (cond (is_live (if x then shut_down r else r)) link None)
kept_by b r n link true is = record {
  number_is = is.number_is;
  address = is.address;
  state = refl;
  dials = is.dials;
  until = refl;
  again = λ e. absurd (cc);
  link_is = refl;
  linked = refl;
  shape = (refl, refl);
}
kept_by b r n link false is = stays_by b r n link (is_live r) refl is

module _ (s : Seen) (current pending : List Address) (list : listed s ≡ current ++ pending) (links : List OwnLink) where
  one_kept : (b : Subchannel) (r : SubRecord) (n : ℕ) (link : Option ℕ) → IsSub b r n link
      → IsSub (shut_one s b) (kept_or_shut current pending r) n (cond (is_live (kept_or_shut current pending r)) link None)
  one_kept b r n link is =
      let x : Bool = is_live r && not (is_wanted current pending r.address) in
      subst (λ (y : Bool). IsSub (shut_if y b) (kept_or_shut current pending r) n (cond (is_live (kept_or_shut current pending r)) link None))
      (sym (unlisted_same s current pending list b r n link is)) (kept_by b r n link x is)

  all_kept : (prefix more : List SubRecord) (n : ℕ) (subs : List Subchannel) (board : List SubRecord) → n ≡ length prefix + 1 → SubchannelsAgree n subs board links
      → SubchannelsAgree n (map (shut_one s) subs) (map (kept_or_shut current pending) board) (live_links (prefix ++ (map (kept_or_shut current pending) board ++ more)) links)
  all_kept prefix more n [] [] e h = tt
  all_kept prefix more n [] (r ∷ board) e h = absurd h
  all_kept prefix more n (b ∷ subs) [] e h = absurd h
  all_kept prefix more n (b ∷ subs) (r ∷ board) e h =
      let f : SubRecord → SubRecord = kept_or_shut current pending in
      let afterwards : List SubRecord = map f board ++ more in
      let all : List SubRecord = prefix ++ f r ∷ afterwards in
      let link : link_of (live_links all links) n ≡ cond (is_live (f r)) (link_of links n) None
      = filtered (passes is_live all) links n
      ∙ ap (λ (o : Option SubRecord). cond (passes_test is_live o) (link_of links n) None) (numbered-afterwards prefix afterwards (f r) n e) in
      let next : SubchannelsAgree (n + 1) (map (shut_one s) subs) (map f board) (live_links ((prefix ++ f r ∷ []) ++ afterwards) links)
      = all_kept (prefix ++ f r ∷ []) more (n + 1) subs board (one-longer prefix (f r) n e) h.1 in (
        subst (λ (o : Option ℕ). IsSub (shut_one s b) (f r) n o) (sym link) (one_kept b r n (link_of links n) h.0),
        subst (λ (l : List SubRecord). SubchannelsAgree (n + 1) (map (shut_one s) subs) (map f board) (live_links l links)) (one-moved prefix afterwards (f r)) next,
      )

beyond_by : (x : Bool) (o : Option ℕ) → o ≡ None → cond x o None ≡ None
beyond_by true o e = e
beyond_by false o e = refl

beyond_kept : (board : List SubRecord) (links : List OwnLink) (made : ℕ) → NoneBeyond made links → NoneBeyond made (live_links board links)
beyond_kept board links made h number less =
    filtered (passes is_live board) links number ∙ beyond_by (passes is_live board number) (link_of links number) (h number less)

-- a new one after
pushed : (a : Address) (k n : ℕ) (subs : List Subchannel) (board : List SubRecord) (links : List OwnLink) → k ≡ n + length subs → link_of links k ≡ None
    → SubchannelsAgree n subs board links → SubchannelsAgree n (subs ++ new_sub a k ∷ []) (board ++ records.new_sub a ∷ []) links
pushed a k n [] [] links e none h =
    let number : k ≡ n = omega arith in
    let there : link_of links n ≡ None = subst (λ (j : ℕ). link_of links j ≡ None) number none in (
      record {
        number_is = number;
        address = refl;
        state = refl;
        dials = refl;
        until = refl;
        again = λ x. refl;
        link_is = sym there;
        linked = ap (λ (o : Option ℕ). is_some o) there;
        shape = (refl, refl);
      },
      tt,
    )
pushed a k n [] (r ∷ board) links e none h = absurd h
pushed a k n (b ∷ subs) [] links e none h = absurd h
pushed a k n (b ∷ subs) (r ∷ board) links e none h =
    let further : k ≡ n + 1 + length subs = omega arith in
    (h.0, pushed a k (n + 1) subs board links further none h.1)

-- an address lacks a live one in both
none_as : (o : Option Subchannel) (e : Option ℕ) → option_map (λ (b : Subchannel). b.number) o ≡ e → is_none o ≡ not (is_some e)
none_as None None e = refl
none_as (Some b) (Some k) e = refl
none_as None (Some k) e = absurd (cc)
none_as (Some b) None e = absurd (cc)

some_by : (x : Bool) (n : ℕ) (o : Option ℕ) (any : Bool) → is_some o ≡ any → is_some (cond x (Some n) o) ≡ (x || any)
some_by true n o any e = refl
some_by false n o any e = e

some_position : (test : SubRecord → Bool) (n : ℕ) (board : List SubRecord) → is_some (position_from test n board) ≡ list_any test board
some_position test n [] = refl
some_position test n (r ∷ board) =
    some_by (test r) n (position_from test (n + 1) board) (list_any test board) (some_position test (n + 1) board)

lacking_same : (a : Address) (subs : List Subchannel) (board : List SubRecord) (links : List OwnLink) → SubchannelsAgree 1 subs board links
    → is_lacking subs a ≡ not (has_live board a)
lacking_same a subs board links h =
    none_as (find (is_live_sub a) subs) (position_from (is_live_at a) 1 board) (found_same (is_live_sub a) (is_live_at a) (live_same a) 1 subs board links h)
    ∙ ap (λ (x : Bool). not x) (some_position (is_live_at a) 1 board)

abbrev Agree : List Subchannel → List SubRecord → List OwnLink → Type 0
Agree subs board links = SubchannelsAgree 1 subs board links × NoneBeyond (length subs) links

grown_by : (a : Address) (subs : List Subchannel) (board : List SubRecord) (links : List OwnLink) (x y : Bool) → x ≡ not y → Agree subs board links
    → Agree (grown_if x subs a) (grown_board_if y board a) links
grown_by a subs board links true false e h =
    let number : length subs + 1 ≡ 1 + length subs = omega arith in
    let longer : length (subs ++ next_sub subs a ∷ []) ≡ length subs + length (next_sub subs a ∷ []) = length-append subs (next_sub subs a ∷ []) in (
      pushed a (length subs + 1) 1 subs board links number (h.1 (length subs + 1) (omega arith)) h.0,
      λ k less. h.1 k (omega (arith, less)),
    )
grown_by a subs board links false true e h = h
grown_by a subs board links true true e h = absurd (cc)
grown_by a subs board links false false e h = absurd (cc)

added_agree : (rest : List Address) (subs : List Subchannel) (board : List SubRecord) (links : List OwnLink) → Agree subs board links
    → Agree (added subs rest) (added_board board rest) links
added_agree [] subs board links h = h
added_agree (a ∷ rest) subs board links h =
    added_agree rest (grown_if (is_lacking subs a) subs a) (grown_board_if (has_live board a) board a) links
    (grown_by a subs board links (is_lacking subs a) (has_live board a) (lacking_same a subs board links h.0) h)

have_numbers : (n : ℕ) (subs : List Subchannel) (board : List SubRecord) (links : List OwnLink) → SubchannelsAgree n subs board links → HaveNumbers n subs
have_numbers n [] [] links h = tt
have_numbers n [] (r ∷ board) links h = absurd h
have_numbers n (b ∷ subs) [] links h = absurd h
have_numbers n (b ∷ subs) (r ∷ board) links h = (h.0.number_is, have_numbers (n + 1) subs board links h.1)

-- so the actions that follow keep the lists
pub record KeptBy (o : OpenEntry) (s : Seen) (board : List SubRecord) (links : List OwnLink) : Type 0 where
  pub subs : List Subchannel
  pub runs : RunsTo o s (with_subs subs s)
  pub are : SubchannelsAgree 1 subs board links
  pub beyond : NoneBeyond (length subs) links

pub keeps : (o : OpenEntry) (s : Seen) (current pending : List Address) (board : List SubRecord) (links : List OwnLink) → IsQuiet o s
    → listed s ≡ current ++ pending → IsWithoutRepeats current → IsWithoutRepeats pending
    → SubchannelsAgree 1 s.subs board links → NoneBeyond (length s.subs) links
    → KeptBy o s (kept current pending board) (live_links (kept current pending board) links)
keeps o s current pending board links q list one two h beyond =
    let f : SubRecord → SubRecord = kept_or_shut current pending in
    let after : List SubRecord = kept current pending board in
    let others : List OwnLink = live_links after links in
    let left : List Subchannel = map (shut_one s) s.subs in
    let subs : List Subchannel = added left (listed s) in
    let adds : RunsTo o (with_subs left s) (with_subs subs s) = add_from o s q [] (listed s) left refl (none_unlisted s s.subs) refl in
    let runs : RunsTo o (with_subs s.subs s) (with_subs subs s)
    = shut_from o s q [] s.subs (with_subs subs s) refl (have_numbers 1 s.subs board links h) adds in
    let shut : SubchannelsAgree 1 left (map f board) others
    = all_kept s current pending list links [] (map records.new_sub (lacking board [] current ++ lacking board current pending)) 1 s.subs board refl h in
    let same : length left ≡ length s.subs = length-map s.subs (shut_one s) in
    let none : NoneBeyond (length left) others
    = subst (λ (k : ℕ). NoneBeyond k others) (sym same) (beyond_kept after links (length s.subs) beyond) in
    let all : Agree subs (added_board (map f board) (listed s)) others = added_agree (listed s) left (map f board) others (shut, none) in
    let boards : added_board (map f board) (listed s) ≡ after
    = ap (added_board (map f board)) list ∙ added_kept board current pending one two in
    record {
      subs = subs;
      runs = runs;
      are = subst (λ (l : List SubRecord). SubchannelsAgree 1 subs l others) boards all.0;
      beyond = all.1;
    }
