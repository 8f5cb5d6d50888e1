-- What the channel does of calls while more of a piece is still to be handled: the link of the piece keeps these bytes, whatever rows leave it and whatever is sealed.
use Rattle.std.proofs.Common.{◌≡◌, ◌++◌, ◌&&◌, ◌||◌, ◌==◌, ◌∷◌, ap, refl, sym, ◌∙◌, Bool, true, false, List, [], Option, None, Some, ℕ, zero, suc, if◌then◌else◌, length, not}
use Rattle.std.proofs.lemmas.Bool.{eqb-false, eqb-true}
use Rattle.std.specs.Option.{option_map, option_map_or}
use Rattle.std.specs.Set.{remove_key}
use Rattle.attempt_ledger.specs.declared.ledger.LinkSeen.{LinkSeen}
use Rattle.attempt_ledger.specs.declared.news.EndNews.{EndNews}
use Rattle.attempt_ledger.specs.declared.news.News.{News}
use Rattle.attempt_ledger.specs.declared.news.News.TheVariants as news
use Rattle.call_core.specs.Steps.{Stepped, received_news}
use Rattle.call_core.specs.declared.act.CallAct.{CallAct}
use Rattle.call_core.specs.declared.act.CallAct.TheVariants as act
use Rattle.channel_core.proofs.BookLaws.{number_changed, number_other}
use Rattle.channel_core.proofs.Resting.{changed_length}
use Rattle.channel_core.specs.Arrivals.{ended_on}
use Rattle.channel_core.specs.Books.{BookActs, book_acted, book_asked, call_of, has_drawn, has_ended, link_of, row_at}
use Rattle.channel_core.specs.States.{StateSeen}
use Rattle.channel_core.specs.Steps.{act_done, acts_done, call_asked, cut, cut_on, drawn_if, has_outstanding, is_gone, is_of_shut_sub, left_after, links_sealed, next_word, reset_on, resets_taken, sealed, sealed_one, stamped_gone, timers_moved, reported, reported_to, with_book, with_ledger_links}
use Rattle.channel_core.specs.Tables.{is_dead, is_dead_at, is_retiring, is_retiring_at, numbered, reset_link, sealed_link, with_link}
use Rattle.channel_core.specs.declared.state.links.LinkSlot.{LinkSlot}
use Rattle.frame_cases.specs.PieceWalks.Points.{coming, with_rest}
use Rattle.ledger_stamps.specs.Steps.{changed, changed_at, gone_link, index_at}
use Rattle.picker_gate.specs.Pairs.{is_same}

-- two changes of a list, where it does not matter which comes first
changed_both : {X : Type 0} (f g : X → X) → ((x : X) → f (g x) ≡ g (f x)) → (xs : List X) (i j : ℕ) → changed f (changed g xs i) j ≡ changed g (changed f xs j) i
changed_both f g same [] i j = refl
changed_both f g same (x ∷ xs) zero zero = ap (λ (y : _). y ∷ xs) (same x)
changed_both f g same (x ∷ xs) zero (suc j) = refl
changed_both f g same (x ∷ xs) (suc i) zero = refl
changed_both f g same (x ∷ xs) (suc i) (suc j) = ap (λ (l : List _). x ∷ l) (changed_both f g same xs i j)

abbrev at_index : {X : Type 0} → (X → X) → List X → Option ℕ → List X
at_index f xs o = option_map_or (λ (k : ℕ). changed f xs k) o xs

both_by : {X : Type 0} (f g : X → X) → ((x : X) → f (g x) ≡ g (f x)) → (xs : List X) (o p : Option ℕ) → at_index f (at_index g xs o) p ≡ at_index g (at_index f xs p) o
both_by f g same xs None None = refl
both_by f g same xs None (Some j) = refl
both_by f g same xs (Some i) None = refl
both_by f g same xs (Some i) (Some j) = changed_both f g same xs i j

pub both_at : {X : Type 0} (f g : X → X) → ((x : X) → f (g x) ≡ g (f x)) → (xs : List X) (i j : ℕ) → changed_at f (changed_at g xs i) j ≡ changed_at g (changed_at f xs j) i
both_at f g same xs i j =
    ap (λ (n : ℕ). at_index f (changed_at g xs i) (index_at j n)) (changed_length g xs i)
    ∙ both_by f g same xs (index_at i (length xs)) (index_at j (length xs))
    ∙ sym (ap (λ (n : ℕ). at_index g (changed_at f xs j) (index_at i n)) (changed_length f xs j))

-- a link that is something more
module _ (link : ℕ) (f : LinkSlot → LinkSlot) (seals : (q : LinkSlot) → with_link sealed_link (f q) ≡ f (with_link sealed_link q)) where
  abbrev more : StateSeen → StateSeen
  more s = record s { links = changed_at f s.links link }

  pub one_sealed : (k : ℕ) (s : StateSeen) → sealed_one k (more s) ≡ more (sealed_one k s)
  one_sealed k s = ap (λ (ls : List LinkSlot). record s { links = ls }) (both_at (with_link sealed_link) f seals s.links link k)

  links_so : (ks : List ℕ) (s : StateSeen) → links_sealed ks (more s) ≡ more (links_sealed ks s)
  links_so [] s = refl
  links_so (k ∷ ks) s = ap (links_sealed ks) (one_sealed k s) ∙ links_so ks (sealed_one k s)

  pub sealed_so : (s : StateSeen) → sealed (more s) ≡ more (sealed s)
  sealed_so s = links_so s.resets (resets_taken s)

  -- and rows leave it as they do
  module _ (dead : (q : LinkSlot) → (f q).dead ≡ q.dead) (retiring : (q : LinkSlot) → (f q).retiring ≡ q.retiring)
      (resets : (row : ℕ) (q : LinkSlot) → with_link (reset_link row) (f q) ≡ f (with_link (reset_link row) q)) where
    looked_by : {Y : Type 0} (look : Option LinkSlot → Y) → ((q : LinkSlot) → look (Some (f q)) ≡ look (Some q)) → (o : Option LinkSlot) → look (option_map f o) ≡ look o
    looked_by look same None = refl
    looked_by look same (Some q) = same q

    looked : {Y : Type 0} (look : Option LinkSlot → Y) → ((q : LinkSlot) → look (Some (f q)) ≡ look (Some q)) → (links : List LinkSlot) (k : ℕ) (b : Bool) → (k == link) ≡ b
        → look (numbered (changed_at f links link) k) ≡ look (numbered links k)
    looked look same links k true e =
        let one : k ≡ link = eqb-true k link e in
        ap (λ (j : ℕ). look (numbered (changed_at f links link) j)) one ∙ ap look (number_changed f links link) ∙ looked_by look same (numbered links link)
        ∙ ap (λ (j : ℕ). look (numbered links j)) (sym one)
    looked look same links k false e = ap look (number_other f links link k (eqb-false k link e))

    gone_so : (k : ℕ) (s : StateSeen) → is_gone k (more s) ≡ is_gone k s
    gone_so k s =
        ap (λ (b : Bool). b || ((is_retiring (more s).links k || is_of_shut_sub k s) && not (has_outstanding k s))) (looked is_dead_at dead s.links k (k == link) refl)
        ∙ ap (λ (b : Bool). is_dead s.links k || ((b || is_of_shut_sub k s) && not (has_outstanding k s))) (looked is_retiring_at retiring s.links k (k == link) refl)

    stamped_by : (columns : List LinkSeen) (s : StateSeen) (b : Bool) → (if b then with_ledger_links columns (more s) else more s) ≡ more (if b then with_ledger_links columns s else s)
    stamped_by columns s true = refl
    stamped_by columns s false = refl

    stamped_so : (k : ℕ) (s : StateSeen) → stamped_gone k (more s) ≡ more (stamped_gone k s)
    stamped_so k s =
        let columns : List LinkSeen = changed_at (gone_link s.book.ledger.entry) s.book.ledger.links k in
        ap (λ (b : Bool). if b then with_ledger_links columns (more s) else more s) (gone_so k s) ∙ stamped_by columns s (is_gone k s)

    cut_so : (k row : ℕ) (s : StateSeen) → cut_on k row (more s) ≡ more (cut_on k row s)
    cut_so k row s =
        let left : StateSeen = record (reset_on k row s) { outstanding = remove_key (is_same (k, row)) s.outstanding } in
        ap (λ (ls : List LinkSlot). stamped_gone k (record left { links = ls })) (both_at (with_link (reset_link row)) f (resets row) s.links link k)
        ∙ stamped_so k left

    act_so : (n : ℕ) (a : CallAct) (s : StateSeen) → act_done n a (more s) ≡ more (act_done n a s)
    act_so n (act.Cut row) s = cut_so (link_of (row_at s.book row)) row s
    act_so n (act.Drop row) s = refl
    act_so n (act.Queue row) s = refl
    act_so n (act.End why) s = refl

    acts_so : (n : ℕ) (acts : List CallAct) (s : StateSeen) → acts_done n acts (more s) ≡ more (acts_done n acts s)
    acts_so n [] s = refl
    acts_so n (a ∷ acts) s = ap (acts_done n acts) (act_so n a s) ∙ acts_so n acts (act_done n a s)

    book_so : (b : BookActs) (n : ℕ) (s : StateSeen) → with_book b n (more s) ≡ more (with_book b n s)
    book_so b n s = ap (timers_moved n) (acts_so n b.acts (record s { book = b.book }))

    pub asked_so : (g : Stepped → Stepped) (n : ℕ) (s : StateSeen) → call_asked g n (more s) ≡ more (call_asked g n s)
    asked_so g n s = book_so (book_asked g n s.book) n s

    reported_to_so : (n row : ℕ) (what : News) (s : StateSeen) → reported_to n row what (more s) ≡ more (reported_to n row what s)
    reported_to_so n row what s =
        let b : BookActs = book_acted (received_news row what s.book.moment (next_word s)) n s.book in book_so b n (drawn_if (has_drawn (row_at b.book row)) s)

    pub reported_so : (row : ℕ) (what : News) (s : StateSeen) → reported row what (more s) ≡ more (reported row what s)
    reported_so row what s = reported_to_so (call_of (row_at s.book row)) row what s

    ended_by : (k row : ℕ) (end : EndNews) (s : StateSeen) (b : Bool) → (if b then more s else stamped_gone k (reported row (news.Ended row end) (left_after k row (more s))))
        ≡ more (if b then s else stamped_gone k (reported row (news.Ended row end) (left_after k row s)))
    ended_by k row end s true = refl
    ended_by k row end s false = ap (stamped_gone k) (reported_so row (news.Ended row end) (left_after k row s)) ∙ stamped_so k (reported row (news.Ended row end) (left_after k row s))

    pub ended_so : (k row : ℕ) (end : EndNews) (s : StateSeen) → ended_on k row end (more s) ≡ more (ended_on k row end s)
    ended_so k row end s = ended_by k row end s (has_ended (row_at s.book row))

-- bytes that are still to come
module _ (link : ℕ) (piece : List ℕ) where
  pub coming_sealed : (s : StateSeen) → sealed (coming link piece s) ≡ coming link piece (sealed s)
  coming_sealed s = sealed_so link (with_rest piece) (λ q. refl) s

  pub coming_sealed_one : (k : ℕ) (s : StateSeen) → sealed_one k (coming link piece s) ≡ coming link piece (sealed_one k s)
  coming_sealed_one k s = one_sealed link (with_rest piece) (λ q. refl) k s

  pub coming_asked : (g : Stepped → Stepped) (n : ℕ) (s : StateSeen) → call_asked g n (coming link piece s) ≡ coming link piece (call_asked g n s)
  coming_asked g n s = asked_so link (with_rest piece) (λ q. refl) (λ q. refl) (λ q. refl) (λ row q. refl) g n s

  pub coming_ended : (k row : ℕ) (end : EndNews) (s : StateSeen) → ended_on k row end (coming link piece s) ≡ coming link piece (ended_on k row end s)
  coming_ended k row end s = ended_so link (with_rest piece) (λ q. refl) (λ q. refl) (λ q. refl) (λ row_ q. refl) k row end s

-- sealing twice
pub sealed_after : (link : ℕ) (s : StateSeen) → sealed (sealed_one link s) ≡ sealed_one link (sealed s)
sealed_after link s = sealed_so link (with_link sealed_link) (λ q. refl) s
