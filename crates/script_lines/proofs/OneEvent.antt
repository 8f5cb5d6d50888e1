-- No fields spell two events.
use Rattle.std.proofs.Common.{◌≡◌, ℕ, ◌<◌, ◌^◌, List, [], ◌∷◌, Option, None, refl, ap, sym, subst, arith, ◌∙◌}
use Rattle.std.specs.Prelude.{codes}
use Rattle.std.proofs.lemmas.Fmt.{decimal_injective}
use Rattle.grpc_base.specs.declared.address.Address.{Address}
use Rattle.grpc_base.specs.declared.event.Event.{Event}
use Rattle.grpc_base.specs.declared.event.Event.TheVariants as event
use Rattle.grpc_base.specs.declared.event.Stamped.{Stamped}
use Rattle.grpc_base.specs.Limits.{moment_limit}
use Rattle.grpc_base.specs.Requests.{RequestSeen}
use Rattle.script_fields.specs.Reading.{listed}
use Rattle.script_fields.proofs.OneLaws.{addresses_one, config_one, message_one, meta_one, number_or_dash_one, piece_one, wait_one, word_one}
use Rattle.script_lines.specs.declared.name.EventName.{EventName}
use Rattle.script_lines.specs.declared.name.EventName.TheVariants as name
use Rattle.script_lines.specs.Events.{IsEventText, name_text}
use Rattle.script_lines.specs.Fields.{AreAddresses, IsConfigOrDash, IsMessage, IsNumber, IsPiece, IsPing, IsRequestText, number_limit, word_limit}
use Rattle.script_lines.specs.Lines.{IsStampedText}
use Rattle.script_lines.proofs.GrammarLaws.{same_name}

-- ---- an event by its name and its values

abbrev event_name : Event → EventName
event_name (event.Begin r) = name.Begin
event_name (event.Send n bytes) = name.Send
event_name (event.Finish n) = name.Finish
event_name (event.Take n) = name.Take
event_name (event.Cancel n) = name.Cancel
event_name (event.Resolved addresses config) = name.Resolved
event_name event.ResolveFailed = name.Unresolved
event_name event.TakeDial = name.Dial
event_name (event.LinkUp n) = name.Up
event_name (event.DialFailed n) = name.NoDial
event_name (event.Arrived n bytes) = name.Arrived
event_name (event.LinkLost n) = name.Lost
event_name (event.Drain n m) = name.Drain
event_name (event.Ping n w) = name.Ping
event_name event.Tick = name.Tick
event_name event.Shutdown = name.Shutdown

-- the values that any event has; those that one does not have are empty
record Values : Type 0 where
  request : RequestSeen
  number : ℕ
  second : ℕ
  bytes : List ℕ
  addresses : List Address
  config : Option (List ℕ)

abbrev no_request : RequestSeen
no_request = record { path = []; meta = []; wait = None; timeout = None }

abbrev values : RequestSeen → ℕ → ℕ → List ℕ → List Address → Option (List ℕ) → Values
values request number second bytes addresses config = record { request = request; number = number; second = second; bytes = bytes; addresses = addresses; config = config }

abbrev numbered : ℕ → ℕ → List ℕ → Values
numbered n m bytes = values no_request n m bytes [] None

abbrev event_values : Event → Values
event_values (event.Begin r) = values r 0 0 [] [] None
event_values (event.Send n bytes) = numbered n 0 bytes
event_values (event.Finish n) = numbered n 0 []
event_values (event.Take n) = numbered n 0 []
event_values (event.Cancel n) = numbered n 0 []
event_values (event.Resolved addresses config) = values no_request 0 0 [] addresses config
event_values (event.LinkUp n) = numbered n 0 []
event_values (event.DialFailed n) = numbered n 0 []
event_values (event.Arrived n bytes) = numbered n 0 bytes
event_values (event.LinkLost n) = numbered n 0 []
event_values (event.Drain n m) = numbered n m []
event_values (event.Ping n w) = numbered n w []
event_values e = numbered 0 0 []

abbrev made : EventName → Values → Event
made name.Begin v = event.Begin v.request
made name.Send v = event.Send v.number v.bytes
made name.Finish v = event.Finish v.number
made name.Take v = event.Take v.number
made name.Cancel v = event.Cancel v.number
made name.Resolved v = event.Resolved v.addresses v.config
made name.Unresolved v = event.ResolveFailed
made name.Dial v = event.TakeDial
made name.Up v = event.LinkUp v.number
made name.NoDial v = event.DialFailed v.number
made name.Arrived v = event.Arrived v.number v.bytes
made name.Lost v = event.LinkLost v.number
made name.Drain v = event.Drain v.number v.second
made name.Ping v = event.Ping v.number v.second
made name.Tick v = event.Tick
made name.Shutdown v = event.Shutdown

made_again : (e : Event) → made (event_name e) (event_values e) ≡ e
made_again (event.Begin r) = refl
made_again (event.Send n bytes) = refl
made_again (event.Finish n) = refl
made_again (event.Take n) = refl
made_again (event.Cancel n) = refl
made_again (event.Resolved addresses config) = refl
made_again event.ResolveFailed = refl
made_again event.TakeDial = refl
made_again (event.LinkUp n) = refl
made_again (event.DialFailed n) = refl
made_again (event.Arrived n bytes) = refl
made_again (event.LinkLost n) = refl
made_again (event.Drain n m) = refl
made_again (event.Ping n w) = refl
made_again event.Tick = refl
made_again event.Shutdown = refl

-- fields that spell an event begin with its name
named : (texts : List (List ℕ)) (e : Event) → IsEventText texts e → (others : List (List ℕ)) × (texts ≡ name_text (event_name e) ∷ others)
named texts (event.Begin r) t = (t.0 ∷ t.1 ∷ t.2 ∷ t.3 ∷ [], t.4)
named texts (event.Send n bytes) t = (t.0 ∷ t.1 ∷ [], t.2)
named texts (event.Finish n) t = (t.0 ∷ [], t.1)
named texts (event.Take n) t = (t.0 ∷ [], t.1)
named texts (event.Cancel n) t = (t.0 ∷ [], t.1)
named texts (event.Resolved addresses config) t = (t.0 ∷ t.1 ∷ [], t.2)
named texts event.ResolveFailed t = ([], t)
named texts event.TakeDial t = ([], t)
named texts (event.LinkUp n) t = (t.0 ∷ [], t.1)
named texts (event.DialFailed n) t = (t.0 ∷ [], t.1)
named texts (event.Arrived n bytes) t = (t.0 ∷ t.1 ∷ [], t.2)
named texts (event.LinkLost n) t = (t.0 ∷ [], t.1)
named texts (event.Drain n m) t = (t.0 ∷ t.1 ∷ [], t.2)
named texts (event.Ping n w) t = (t.0 ∷ t.1 ∷ [], t.2)
named texts event.Tick t = ([], t)
named texts event.Shutdown t = ([], t)

-- ---- values of one text

pub number_one : (most n m : ℕ) (text : List ℕ) → most < 2 ^ 64 → IsNumber most n text → IsNumber most m text → n ≡ m
number_one most n m text small p q = decimal_injective n m (omega (arith, small, p.0)) (omega (arith, small, q.0)) (sym p.1 ∙ q.1)

pub call_one : (n m : ℕ) (text : List ℕ) → IsNumber number_limit n text → IsNumber number_limit m text → n ≡ m
call_one n m text p q = number_one number_limit n m text (omega arith) p q

pub request_one : (r s : RequestSeen) (path wait timeout meta : List ℕ) → IsRequestText r path wait timeout meta → IsRequestText s path wait timeout meta → r ≡ s
request_one r s path wait timeout meta p q =
    let same_path : r.path ≡ s.path = p.1 ∙ sym q.1 in
    let same_wait : r.wait ≡ s.wait = wait_one r.wait s.wait (sym p.2 ∙ q.2) in
    let same_timeout : r.timeout ≡ s.timeout = number_or_dash_one timeout r.timeout s.timeout p.3.0 q.3.0 in
    let same_meta : r.meta ≡ s.meta = meta_one meta r.meta s.meta p.4 q.4 in
    λ i. record { path = same_path i; meta = same_meta i; wait = same_wait i; timeout = same_timeout i }

list_one : (xs ys : List Address) (text : List ℕ) → AreAddresses xs text → AreAddresses ys text → xs ≡ ys
list_one xs ys text p q = p.3 ∙ ap listed (addresses_one text p.0 q.0 p.1 q.1) ∙ sym q.3

one_after : (name a b : List ℕ) → name ∷ a ∷ [] ≡ name ∷ b ∷ [] → a ≡ b
one_after name a b e = (cc)

two_after : (name a b c d : List ℕ) → name ∷ a ∷ c ∷ [] ≡ name ∷ b ∷ d ∷ [] → (a ≡ b) × (c ≡ d)
two_after name a b c d e = ((cc), (cc))

four_after : (name a b c d p q r s : List ℕ) → name ∷ a ∷ b ∷ c ∷ d ∷ [] ≡ name ∷ p ∷ q ∷ r ∷ s ∷ [] → (a ≡ p) × (b ≡ q) × (c ≡ r) × (d ≡ s)
four_after name a b c d p q r s e = ((cc), (cc), (cc), (cc))

-- a number after a name
number_after : (head : List ℕ) (texts : List (List ℕ)) (n m : ℕ) → (a : List ℕ) × (texts ≡ head ∷ a ∷ []) × IsNumber number_limit n a → (a : List ℕ) × (texts ≡ head ∷ a ∷ []) × IsNumber number_limit m a → n ≡ m
number_after head texts n m t u = call_one n m t.0 t.2 (subst (IsNumber number_limit m) (sym (one_after head t.0 u.0 (sym t.1 ∙ u.1))) u.2)

-- a number and another value after a name
pair_after : {X : Type 0} (head : List ℕ) (texts : List (List ℕ)) (IsValue : X → List ℕ → Type 0) (one : (x y : X) (text : List ℕ) → IsValue x text → IsValue y text → x ≡ y) (n m : ℕ) (x y : X) → (a b : List ℕ) × (texts ≡ head ∷ a ∷ b ∷ []) × IsNumber number_limit n a × IsValue x b → (a b : List ℕ) × (texts ≡ head ∷ a ∷ b ∷ []) × IsNumber number_limit m a × IsValue y b → (n ≡ m) × (x ≡ y)
pair_after head texts IsValue one n m x y t u =
    let same : (t.0 ≡ u.0) × (t.1 ≡ u.1) = two_after head t.0 u.0 t.1 u.1 (sym t.2 ∙ u.2) in
    (call_one n m t.0 t.3 (subst (IsNumber number_limit m) (sym same.0) u.3), one x y t.1 t.4 (subst (IsValue y) (sym same.1) u.4))

addresses_after : (head : List ℕ) (texts : List (List ℕ)) (xs ys : List Address) (c d : Option (List ℕ)) → (a b : List ℕ) × (texts ≡ head ∷ a ∷ b ∷ []) × AreAddresses xs a × IsConfigOrDash c b → (a b : List ℕ) × (texts ≡ head ∷ a ∷ b ∷ []) × AreAddresses ys a × IsConfigOrDash d b → (xs ≡ ys) × (c ≡ d)
addresses_after head texts xs ys c d t u =
    let same : (t.0 ≡ u.0) × (t.1 ≡ u.1) = two_after head t.0 u.0 t.1 u.1 (sym t.2 ∙ u.2) in
    let there : IsConfigOrDash d t.1 = subst (IsConfigOrDash d) (sym same.1) u.4 in
    (list_one xs ys t.0 t.3 (subst (AreAddresses ys) (sym same.0) u.3), config_one t.1 c d t.4.0 there.0)

-- ---- two events of one name

made_one : (k : EventName) (v w : Values) (texts : List (List ℕ)) → IsEventText texts (made k v) → IsEventText texts (made k w) → made k v ≡ made k w
made_one name.Begin v w texts t u =
    let same : (t.0 ≡ u.0) × (t.1 ≡ u.1) × (t.2 ≡ u.2) × (t.3 ≡ u.3) = four_after (codes "begin") t.0 t.1 t.2 t.3 u.0 u.1 u.2 u.3 (sym t.4 ∙ u.4) in
    let there : IsRequestText w.request t.0 t.1 t.2 t.3 =
    subst (λ x. IsRequestText w.request x t.1 t.2 t.3) (sym same.0)
    (subst (λ x. IsRequestText w.request u.0 x t.2 t.3) (sym same.1)
    (subst (λ x. IsRequestText w.request u.0 u.1 x t.3) (sym same.2)
    (subst (λ x. IsRequestText w.request u.0 u.1 u.2 x) (sym same.3) u.5))) in
    ap event.Begin (request_one v.request w.request t.0 t.1 t.2 t.3 t.5 there)
made_one name.Send v w texts t u =
    let same : (v.number ≡ w.number) × (v.bytes ≡ w.bytes) = pair_after (codes "send") texts IsMessage (λ x y text p q. message_one text x y p.0 q.0) v.number w.number v.bytes w.bytes t u in
    λ i. event.Send (same.0 i) (same.1 i)
made_one name.Finish v w texts t u = ap event.Finish (number_after (codes "finish") texts v.number w.number t u)
made_one name.Take v w texts t u = ap event.Take (number_after (codes "take") texts v.number w.number t u)
made_one name.Cancel v w texts t u = ap event.Cancel (number_after (codes "cancel") texts v.number w.number t u)
made_one name.Resolved v w texts t u =
    let same : (v.addresses ≡ w.addresses) × (v.config ≡ w.config) = addresses_after (codes "resolved") texts v.addresses w.addresses v.config w.config t u in
    λ i. event.Resolved (same.0 i) (same.1 i)
made_one name.Unresolved v w texts t u = refl
made_one name.Dial v w texts t u = refl
made_one name.Up v w texts t u = ap event.LinkUp (number_after (codes "up") texts v.number w.number t u)
made_one name.NoDial v w texts t u = ap event.DialFailed (number_after (codes "nodial") texts v.number w.number t u)
made_one name.Arrived v w texts t u =
    let same : (v.number ≡ w.number) × (v.bytes ≡ w.bytes) = pair_after (codes "arrived") texts IsPiece (λ x y text p q. piece_one text x y p q) v.number w.number v.bytes w.bytes t u in
    λ i. event.Arrived (same.0 i) (same.1 i)
made_one name.Lost v w texts t u = ap event.LinkLost (number_after (codes "lost") texts v.number w.number t u)
made_one name.Drain v w texts t u =
    let same : (v.number ≡ w.number) × (v.second ≡ w.second) = pair_after (codes "drain") texts (IsNumber number_limit) call_one v.number w.number v.second w.second t u in
    λ i. event.Drain (same.0 i) (same.1 i)
made_one name.Ping v w texts t u =
    let same : (v.number ≡ w.number) × (v.second ≡ w.second) = pair_after (codes "ping") texts IsPing (λ x y text p q. word_one text x y p q) v.number w.number v.second w.second t u in
    λ i. event.Ping (same.0 i) (same.1 i)
made_one name.Tick v w texts t u = refl
made_one name.Shutdown v w texts t u = refl

same_head : (a b : List ℕ) (xs ys : List (List ℕ)) → a ∷ xs ≡ b ∷ ys → a ≡ b
same_head a b xs ys e = (cc)

-- no fields spell two events
pub event_one : (texts : List (List ℕ)) (e f : Event) → IsEventText texts e → IsEventText texts f → e ≡ f
event_one texts e f t u =
    let p : (others : List (List ℕ)) × (texts ≡ name_text (event_name e) ∷ others) = named texts e t in
    let q : (others : List (List ℕ)) × (texts ≡ name_text (event_name f) ∷ others) = named texts f u in
    let same : event_name e ≡ event_name f = same_name (event_name e) (event_name f) (same_head (name_text (event_name e)) (name_text (event_name f)) p.0 q.0 (sym p.1 ∙ q.1)) in
    let other : made (event_name e) (event_values f) ≡ f = ap (λ k. made k (event_values f)) same ∙ made_again f in
    sym (made_again e)
    ∙ made_one (event_name e) (event_values e) (event_values f) texts (subst (IsEventText texts) (sym (made_again e)) t) (subst (IsEventText texts) (sym other) u)
    ∙ other

-- no fields spell two stamped events
pub stamped_one : (texts : List (List ℕ)) (s r : Stamped) → IsStampedText texts s → IsStampedText texts r → s ≡ r
stamped_one (moment ∷ (word ∷ others)) s r t u =
    let same_moment : s.moment ≡ r.moment = number_one moment_limit s.moment r.moment moment (omega arith) t.0 u.0 in
    let same_word : s.word ≡ r.word = number_one word_limit s.word r.word word (omega arith) t.1 u.1 in
    let same_event : s.event ≡ r.event = event_one others s.event r.event t.2 u.2 in
    λ i. record { moment = same_moment i; word = same_word i; event = same_event i }
stamped_one [] s r t u = absurd t
stamped_one (moment ∷ []) s r t u = absurd t
