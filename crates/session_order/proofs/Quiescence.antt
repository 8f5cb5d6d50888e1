-- A session is quiescent exactly where none of the lines gives anything that come before its stage; and else the first line that is not still gives what is
-- next.
use Rattle.std.proofs.Common.{◌≡◌, ◌∷◌, ◌++◌, ◌||◌, ◌&&◌, ◌==◌, ap, refl, sym, ◌∙◌, Bool, true, false, List, [], Option, None, Some, ℕ, nat_lt, if◌then◌else◌, ◌↔◌}
use Rattle.std.proofs.lemmas.Bool.{and_parts, eqb-true}
use Rattle.std.specs.List.{list_any}
use Rattle.std.specs.Option.{option_and_then, option_or}
use Rattle.session_actions.specs.Actions.{following, following_in, of_calls, of_links, of_policies, of_stage}
use Rattle.session_actions.specs.Events.{is_loss}
use Rattle.session_actions.specs.Words.{first_of}
use Rattle.session_actions.specs.declared.action.Action.{Action}
use Rattle.session_actions.specs.declared.entry.OpenEntry.{OpenEntry}
use Rattle.session_actions.specs.declared.seen.Seen.{Seen}
use Rattle.session_order.proofs.Lines.{lines_are_still}
use Rattle.session_order.proofs.Lists.{none_or, or_none, or_nothing}
use Rattle.session_order.specs.Quiescent.{IsQuiescent, IsStill}
use Rattle.session_order.specs.Lines.{gives, is_before, is_line, rank}
use Rattle.session_order.specs.declared.line.Line.{Line}
use Rattle.session_order.specs.declared.line.Line.TheVariants as line

-- the lines in their order; that of the ends comes before the resets, or after them
abbrev call_lines : List Line
call_lines =
    line.Cut ∷ line.Transparent ∷ line.Inherited ∷ line.Row ∷ line.Final ∷ line.Cancelled ∷ line.Request ∷ line.Overflow ∷ line.Head ∷ line.Response ∷ []

abbrev link_lines : Bool → List Line
link_lines true = line.Pick ∷ line.Link ∷ line.Reset ∷ line.WireEnd ∷ []
link_lines false = line.Pick ∷ line.Link ∷ line.WireEnd ∷ line.Reset ∷ []

abbrev policy_lines : List Line
policy_lines = line.Shut ∷ line.Retire ∷ line.Begin ∷ line.Give ∷ line.Drop ∷ line.Add ∷ []

abbrev ordered : Bool → List Line
ordered loses = call_lines ++ (link_lines loses ++ policy_lines)

again : (w r : Option Action) → option_or w (option_or r (option_or w None)) ≡ option_or w (option_or r None)
again None r = refl
again (Some a) r = refl

first_of_links : (loses : Bool) (pick link wire reset : Option Action)
    → option_or pick (option_or link (option_or (if loses then None else wire) (option_or reset (option_or wire None))))
    ≡ option_or pick (option_or link (if loses then option_or reset (option_or wire None) else option_or wire (option_or reset None)))
first_of_links true pick link wire reset = refl
first_of_links false pick link wire reset = ap (λ (x : Option Action). option_or pick (option_or link x)) (again wire reset)

links_by : (loses : Bool) (o : OpenEntry) (s : Seen)
    → option_or (gives line.Pick o s) (option_or (gives line.Link o s)
    (if loses then option_or (gives line.Reset o s) (option_or (gives line.WireEnd o s) None)
    else option_or (gives line.WireEnd o s) (option_or (gives line.Reset o s) None)))
    ≡ first_of (λ l. gives l o s) (link_lines loses)
links_by true o s = refl
links_by false o s = refl

links_are : (o : OpenEntry) (s : Seen) → of_links o s ≡ first_of (λ l. gives l o s) (link_lines (is_loss o.event))
links_are o s =
    first_of_links (is_loss o.event) (gives line.Pick o s) (gives line.Link o s) (gives line.WireEnd o s) (gives line.Reset o s)
    ∙ links_by (is_loss o.event) o s

-- lines of one number are one
abbrev line_of : ℕ → Line
line_of n =
    if n == 1 then line.Cut
    else if n == 2 then line.Transparent
    else if n == 3 then line.Inherited
    else if n == 4 then line.Row
    else if n == 5 then line.Final
    else if n == 6 then line.Cancelled
    else if n == 7 then line.Request
    else if n == 8 then line.Overflow
    else if n == 9 then line.Head
    else if n == 10 then line.Response
    else if n == 11 then line.Pick
    else if n == 12 then line.Link
    else if n == 13 then line.WireEnd
    else if n == 14 then line.Reset
    else if n == 16 then line.Shut
    else if n == 17 then line.Retire
    else if n == 18 then line.Begin
    else if n == 19 then line.Give
    else if n == 20 then line.Drop
    else line.Add

its_line : (l : Line) → line_of (rank false l) ≡ l
its_line line.Cut = refl
its_line line.Transparent = refl
its_line line.Inherited = refl
its_line line.Row = refl
its_line line.Final = refl
its_line line.Cancelled = refl
its_line line.Request = refl
its_line line.Overflow = refl
its_line line.Head = refl
its_line line.Response = refl
its_line line.Pick = refl
its_line line.Link = refl
its_line line.WireEnd = refl
its_line line.Reset = refl
its_line line.Shut = refl
its_line line.Retire = refl
its_line line.Begin = refl
its_line line.Give = refl
its_line line.Drop = refl
its_line line.Add = refl

one_line : (l m : Line) → is_line l m ≡ true → l ≡ m
one_line l m e = sym (its_line l) ∙ ap line_of (eqb-true (rank false l) (rank false m) e) ∙ its_line m

-- the first of a list that gives something
abbrev reaches : Bool → Line → List Line → Bool
reaches loses l [] = false
reaches loses l (m ∷ ms) = if is_line m l then true else (nat_lt (rank loses m) (rank loses l) && reaches loses l ms)

walk_by : (loses : Bool) (g : Line → Option Action) (l m : Line) (a : Action) (ms : List Line) (b : Bool) → is_line m l ≡ b
    → (if b then true else (nat_lt (rank loses m) (rank loses l) && reaches loses l ms)) ≡ true
    → ((n : Line) → nat_lt (rank loses n) (rank loses l) ≡ true → g n ≡ None) → g l ≡ Some a
    → (reaches loses l ms ≡ true → first_of g ms ≡ Some a) → option_or (g m) (first_of g ms) ≡ Some a
walk_by loses g l m a ms true e r none here rest =
    ap (λ (o : Option Action). option_or o (first_of g ms)) (ap g (one_line m l e) ∙ here)
walk_by loses g l m a ms false e r none here rest =
    let parts : (nat_lt (rank loses m) (rank loses l) ≡ true) × (reaches loses l ms ≡ true)
    = and_parts (nat_lt (rank loses m) (rank loses l)) (reaches loses l ms) r in
    ap (λ (o : Option Action). option_or o (first_of g ms)) (none m parts.0) ∙ rest parts.1

walk : (loses : Bool) (g : Line → Option Action) (l : Line) (a : Action) (ms : List Line) → reaches loses l ms ≡ true
    → ((n : Line) → nat_lt (rank loses n) (rank loses l) ≡ true → g n ≡ None) → g l ≡ Some a → first_of g ms ≡ Some a
walk loses g l a [] r none here = absurd (cc)
walk loses g l a (m ∷ ms) r none here = walk_by loses g l m a ms (is_line m l) refl r none here (λ e. walk loses g l a ms e none here)

there : (loses : Bool) (l : Line) → reaches loses l (ordered loses) ≡ true
there true line.Cut = refl
there true line.Transparent = refl
there true line.Inherited = refl
there true line.Row = refl
there true line.Final = refl
there true line.Cancelled = refl
there true line.Request = refl
there true line.Overflow = refl
there true line.Head = refl
there true line.Response = refl
there true line.Pick = refl
there true line.Link = refl
there true line.WireEnd = refl
there true line.Reset = refl
there true line.Shut = refl
there true line.Retire = refl
there true line.Begin = refl
there true line.Give = refl
there true line.Drop = refl
there true line.Add = refl
there false line.Cut = refl
there false line.Transparent = refl
there false line.Inherited = refl
there false line.Row = refl
there false line.Final = refl
there false line.Cancelled = refl
there false line.Request = refl
there false line.Overflow = refl
there false line.Head = refl
there false line.Response = refl
there false line.Pick = refl
there false line.Link = refl
there false line.WireEnd = refl
there false line.Reset = refl
there false line.Shut = refl
there false line.Retire = refl
there false line.Begin = refl
there false line.Give = refl
there false line.Drop = refl
there false line.Add = refl

-- a list that gives nothing
none_all : (g : Line → Option Action) (ms : List Line) → ((l : Line) → g l ≡ None) → first_of g ms ≡ None
none_all g [] none = refl
none_all g (m ∷ ms) none = none_or (g m) (first_of g ms) (none m) (none_all g ms none)

none_by : (g : Line → Option Action) (l m : Line) (ms : List Line) (b : Bool) → is_line l m ≡ b → (b || list_any (is_line l) ms) ≡ true
    → (g m ≡ None) × (first_of g ms ≡ None) → (list_any (is_line l) ms ≡ true → g l ≡ None) → g l ≡ None
none_by g l m ms true e r none rest = ap g (one_line l m e) ∙ none.0
none_by g l m ms false e r none rest = rest r

none_in : (g : Line → Option Action) (l : Line) (ms : List Line) → list_any (is_line l) ms ≡ true → first_of g ms ≡ None → g l ≡ None
none_in g l [] r none = absurd (cc)
none_in g l (m ∷ ms) r none =
    let parts : (g m ≡ None) × (first_of g ms ≡ None) = or_none (g m) (first_of g ms) none in
    none_by g l m ms (is_line l m) refl r parts (λ e. none_in g l ms e parts.1)

in_links : (loses : Bool) (l : Line) → list_any (is_line l) (link_lines true) ≡ true → list_any (is_line l) (link_lines loses) ≡ true
in_links loses line.Cut e = absurd (cc)
in_links loses line.Transparent e = absurd (cc)
in_links loses line.Inherited e = absurd (cc)
in_links loses line.Row e = absurd (cc)
in_links loses line.Final e = absurd (cc)
in_links loses line.Cancelled e = absurd (cc)
in_links loses line.Request e = absurd (cc)
in_links loses line.Overflow e = absurd (cc)
in_links loses line.Head e = absurd (cc)
in_links loses line.Response e = absurd (cc)
in_links loses line.Shut e = absurd (cc)
in_links loses line.Retire e = absurd (cc)
in_links loses line.Begin e = absurd (cc)
in_links loses line.Give e = absurd (cc)
in_links loses line.Drop e = absurd (cc)
in_links loses line.Add e = absurd (cc)
in_links true line.Pick e = refl
in_links true line.Link e = refl
in_links true line.WireEnd e = refl
in_links true line.Reset e = refl
in_links false line.Pick e = refl
in_links false line.Link e = refl
in_links false line.WireEnd e = refl
in_links false line.Reset e = refl

abbrev NoneGives : OpenEntry → Seen → Type 0
NoneGives o s = (of_calls o s ≡ None) × (of_links o s ≡ None) × (of_policies o s ≡ None)

abbrev given : OpenEntry → Seen → Line → Option Action
given o s l = gives l o s

of_a_link : (o : OpenEntry) (s : Seen) (l : Line) → list_any (is_line l) (link_lines true) ≡ true → of_links o s ≡ None → gives l o s ≡ None
of_a_link o s l e h = none_in (given o s) l (link_lines (is_loss o.event)) (in_links (is_loss o.event) l e) (sym (links_are o s) ∙ h)

each_none : (o : OpenEntry) (s : Seen) → NoneGives o s → (l : Line) → gives l o s ≡ None
each_none o s h line.Cut = none_in (given o s) line.Cut call_lines refl h.0
each_none o s h line.Transparent = none_in (given o s) line.Transparent call_lines refl h.0
each_none o s h line.Inherited = none_in (given o s) line.Inherited call_lines refl h.0
each_none o s h line.Row = none_in (given o s) line.Row call_lines refl h.0
each_none o s h line.Final = none_in (given o s) line.Final call_lines refl h.0
each_none o s h line.Cancelled = none_in (given o s) line.Cancelled call_lines refl h.0
each_none o s h line.Request = none_in (given o s) line.Request call_lines refl h.0
each_none o s h line.Overflow = none_in (given o s) line.Overflow call_lines refl h.0
each_none o s h line.Head = none_in (given o s) line.Head call_lines refl h.0
each_none o s h line.Response = none_in (given o s) line.Response call_lines refl h.0
each_none o s h line.Pick = of_a_link o s line.Pick refl h.1
each_none o s h line.Link = of_a_link o s line.Link refl h.1
each_none o s h line.WireEnd = of_a_link o s line.WireEnd refl h.1
each_none o s h line.Reset = of_a_link o s line.Reset refl h.1
each_none o s h line.Shut = none_in (given o s) line.Shut policy_lines refl h.2
each_none o s h line.Retire = none_in (given o s) line.Retire policy_lines refl h.2
each_none o s h line.Begin = none_in (given o s) line.Begin policy_lines refl h.2
each_none o s h line.Give = none_in (given o s) line.Give policy_lines refl h.2
each_none o s h line.Drop = none_in (given o s) line.Drop policy_lines refl h.2
each_none o s h line.Add = none_in (given o s) line.Add policy_lines refl h.2

none_given : (o : OpenEntry) (s : Seen) → IsQuiescent o s → (l : Line) → gives l o s ≡ None
none_given o s quiescent l = (lines_are_still l o s).1 (quiescent l)

all_none : (o : OpenEntry) (s : Seen) → IsQuiescent o s → NoneGives o s
all_none o s quiescent =
    let none : (l : Line) → gives l o s ≡ None = none_given o s quiescent in (
      none_all (given o s) call_lines none,
      links_are o s ∙ none_all (given o s) (link_lines (is_loss o.event)) none,
      none_all (given o s) policy_lines none,
    )

pub quiescence_is_exact : (o : OpenEntry) (s : Seen) → NoneGives o s ↔ IsQuiescent o s
quiescence_is_exact o s = (λ h l. (lines_are_still l o s).0 (each_none o s h l), all_none o s)

-- what is next
following_parts : (x y z w : Option Action) → x ≡ None → y ≡ None → z ≡ None → option_or x (option_or y (option_or z (option_or w None))) ≡ w
following_parts x y z w e f h =
    ap (λ (v : Option Action). option_or v (option_or y (option_or z (option_or w None)))) e
    ∙ ap (λ (v : Option Action). option_or v (option_or z (option_or w None))) f ∙ ap (λ (v : Option Action). option_or v (option_or w None)) h ∙ or_nothing w

pub quiescence_leaves_stage : (o : OpenEntry) (s : Seen) → s.current ≡ Some o → IsQuiescent o s → following s ≡ of_stage o s o.stage
quiescence_leaves_stage o s e quiescent =
    let none : NoneGives o s = all_none o s quiescent in
    ap (option_and_then (following_in s)) e ∙ following_parts (of_calls o s) (of_links o s) (of_policies o s) (of_stage o s o.stage) none.0 none.1 none.2

or_both : (o p q : Option Action) → option_or o (option_or p q) ≡ option_or (option_or o p) q
or_both None p q = refl
or_both (Some x) p q = refl

first_append : (g : Line → Option Action) (ls ms : List Line) → first_of g (ls ++ ms) ≡ option_or (first_of g ls) (first_of g ms)
first_append g [] ms = refl
first_append g (l ∷ ls) ms = ap (option_or (g l)) (first_append g ls ms) ∙ or_both (g l) (first_of g ls) (first_of g ms)

some_first : (x y z w : Option Action) (a : Action) → option_or x (option_or y z) ≡ Some a → option_or x (option_or y (option_or z w)) ≡ Some a
some_first (Some b) y z w a e = e
some_first None (Some b) z w a e = e
some_first None None (Some b) w a e = e
some_first None None None w a e = absurd (cc)

pub first_line_gives : (l : Line) (a : Action) (o : OpenEntry) (s : Seen) → s.current ≡ Some o
    → ((m : Line) → is_before o.event m l ≡ true → IsStill m o s) → gives l o s ≡ Some a → following s ≡ Some a
first_line_gives l a o s e before here =
    let g : Line → Option Action = given o s in
    let loses : Bool = is_loss o.event in
    let found : first_of g (ordered loses) ≡ Some a
    = walk loses g l a (ordered loses) (there loses l) (λ n less. (lines_are_still n o s).1 (before n less)) here in
    let parts : option_or (first_of g call_lines) (option_or (first_of g (link_lines loses)) (first_of g policy_lines)) ≡ Some a
    = ap (option_or (first_of g call_lines)) (sym (first_append g (link_lines loses) policy_lines))
    ∙ sym (first_append g call_lines (link_lines loses ++ policy_lines)) ∙ found in
    ap (option_and_then (following_in s)) e
    ∙ ap (λ (x : Option Action). option_or (of_calls o s) (option_or x (option_or (of_policies o s) (option_or (of_stage o s o.stage) None)))) (links_are o s)
    ∙ some_first (first_of g call_lines) (first_of g (link_lines loses)) (first_of g policy_lines) (option_or (of_stage o s o.stage) None) a parts
