-- Words that a table learns.
use Rattle.std.proofs.Common.{◌≡◌, ℕ, ◌+◌, ◌<◌, Bool, true, false, List, [], ◌∷◌, ◌++◌, Bor, length, get_or, take, refl, sym, ap, subst, ◌∙◌}
use Rattle.std.specs.Prelude.{◌||◌, if◌then◌else◌}
use Rattle.std.specs.List.{AllByRecursion, list_any}
use Rattle.std.proofs.lemmas.List.{take_more, get_or_default}
use Rattle.rb_base.specs.Names.{text_eq, interned}
use Rattle.rb_base.proofs.NamesLemmas.{text_eq-refl}
use Rattle.event_trees.specs.Naming.{Grows}
use Rattle.event_trees.proofs.Known.{Adds-interned}
use Rattle.certified_model.specs.Marks.{Text}
use Rattle.derivations.specs.Words.{HasText}
use Rattle.derivations.proofs.LawWords.{text_still}

-- a table that learns a text grows
pub grown : (names later : List Text) (t : Text) → later ≡ interned names t → Grows names later
grown names later t e = let a = Adds-interned names t in record { more = a.more; grown = e ∙ a.grown }

-- what was learned last is there
last_there : (t : Text) (names : List Text) → HasText (names ++ t ∷ []) t
last_there t [] = ap (λ (b : Bool). b || false) (text_eq-refl t)
last_there t (n ∷ names) = by (text_eq t n) (last_there t names)
  where
    by : (b : Bool) → list_any (text_eq t) (names ++ t ∷ []) ≡ true → (b || list_any (text_eq t) (names ++ t ∷ [])) ≡ true
    by true h = refl
    by false h = h

there : (t : Text) (names : List Text) → HasText (interned names t) t
there t names = by (list_any (text_eq t) names) refl
  where
    by : (b : Bool) → list_any (text_eq t) names ≡ b → HasText (if b then names else names ++ t ∷ []) t
    by true e = e
    by false e = last_there t names

end_more : {X : Type 0} (P Q : X → Type 0) → ((x : X) → P x → Q x) → (xs : List X) (x : X) → AllByRecursion P xs → Q x → AllByRecursion Q (xs ++ x ∷ [])
end_more P Q f [] x a q = (q, tt)
end_more P Q f (y ∷ xs) x a q = (f y a.0, end_more P Q f xs x a.1 q)

one_more : {X : Type 0} (P Q : X → Type 0) → ((x : X) → P x → Q x) → (xs : List X) (i : ℕ) (x : X) → i < length xs → x ≡ get_or xs i x → AllByRecursion P (take i xs) → Q x → AllByRecursion Q (take (i + 1) xs)
one_more P Q f xs i x h e a q =
    subst (AllByRecursion Q) (sym (take_more xs i x h ∙ ap (λ y. take i xs ++ y ∷ []) (sym e))) (end_more P Q f (take i xs) x a q)

pub learned_more : (names later : List Text) (ws : List (Bor Text)) (i : ℕ) (d : Bor Text) → i < length ws → later ≡ interned names (get_or ws i d).now
    → AllByRecursion (λ (v : Bor Text). HasText names v.now) (take i ws) → AllByRecursion (λ (v : Bor Text). HasText later v.now) (take (i + 1) ws)
learned_more names later ws i d h l a =
    let w : Bor Text = get_or ws i d in
    one_more (λ (v : Bor Text). HasText names v.now) (λ (v : Bor Text). HasText later v.now) (λ v k. text_still (grown names later w.now l) v.now k) ws i w h (get_or_default ws i d w h) a
    (subst (λ (ns : List Text). HasText ns w.now) (sym l) (there w.now names))
