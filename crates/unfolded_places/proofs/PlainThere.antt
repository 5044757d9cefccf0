-- What is always the same, and what is no local, inside further scopes.
use Rattle.std.proofs.Common.{◌≡◌, ℕ, ◌+◌, List, ◌∷◌, ◌++◌, length, map, refl, ap, ◌∙◌, arith}
use Rattle.std.specs.Prelude.{false, codes}
use Rattle.tree_model.specs.Tree.{TreeOf, TreesOf}
use Rattle.scope_model.specs.SpecialNames.{is_pseudo_variable}
use Rattle.image_model.specs.Means.{of_instance, of_class_side, of_class, MeaningOf, pseudo, argument, temporary, variable, a_class, transcript, undeclared}
use Rattle.run_model.specs.Values.{Name}
use Rattle.resolved_model.specs.ResolvedTrees.{of_local, ResolvedTree, reading, assigning}
use Rattle.resolved_model.specs.ResolvedImages.{ResolvedImage}
use Rattle.resolved_model.specs.Resolving.{reference_of, target_of}
use Rattle.resolved_model.specs.Environments.{Declared, place_in, tree_in}
use Rattle.unfolded_calls.specs.Unfolding.{Allowed, StandIn, an_argument, stand_in, moved, farther, IsRead, Context, Unfolds, same_reading, same_assignment}
use Rattle.unfolded_calls.specs.SameContexts.{IsOutside}
use Rattle.unfolded_places.specs.Inlining.{PlainActual, plain_self, plain_nil, plain_true, plain_false, plain_number, plain_string, plain_symbol, plain_char, plain_argument, plain_class, PlainActuals, plain_none, plain_more, IsFreeOf}
use Rattle.unfolded_places.proofs.NamesThere.{word-read, local-read, outer-read, kind-behind}

-- plain stand-ins are the same in a closure, and where they stand
pub plain-far : (f : Name → MeaningOf Name) (A : List Declared) (t : TreeOf Name) (a : StandIn) (n : ℕ) → PlainActual f A t a → farther (moved n a) ≡ moved n a
plain-far f A _ _ n plain_self = refl
plain-far f A _ _ n plain_nil = refl
plain-far f A _ _ n plain_true = refl
plain-far f A _ _ n plain_false = refl
plain-far f A _ _ n (plain_number t z e) = refl
plain-far f A _ _ n (plain_string t) = refl
plain-far f A _ _ n (plain_symbol t) = refl
plain-far f A _ _ n (plain_char b) = refl
plain-far f A _ _ n (plain_argument x p e) = refl
plain-far f A _ _ n (plain_class x c p e q) = refl

pub plains-far : (f : Name → MeaningOf Name) (A : List Declared) (ts : TreesOf Name) (actuals : List StandIn) (n : ℕ) → PlainActuals f A ts actuals → map farther (map (moved n) actuals) ≡ map (moved n) actuals
plains-far f A _ _ n plain_none = refl
plains-far f A _ _ n (plain_more {t = t} {ts = ts} {a = a} {rest = rest} p r) = λ i. plain-far f A t a n p i ∷ plains-far f A ts rest n r i

pub plain-moved : (f : Name → MeaningOf Name) (A : List Declared) (t : TreeOf Name) (a : StandIn) (n k : ℕ) → PlainActual f A t a → moved n (moved k a) ≡ moved (n + k) a
plain-moved f A _ _ n k plain_self = refl
plain-moved f A _ _ n k plain_nil = refl
plain-moved f A _ _ n k plain_true = refl
plain-moved f A _ _ n k plain_false = refl
plain-moved f A _ _ n k (plain_number t z e) = refl
plain-moved f A _ _ n k (plain_string t) = refl
plain-moved f A _ _ n k (plain_symbol t) = refl
plain-moved f A _ _ n k (plain_char b) = refl
plain-moved f A _ _ n k (plain_argument x p e) = ap an_argument (sum n k (place_in A x))
  where
    sum : (n k j : ℕ) → n + (k + j) ≡ n + k + j
    sum n k j = omega arith
plain-moved f A _ _ n k (plain_class x c p e q) = refl

pub plains-moved : (f : Name → MeaningOf Name) (A : List Declared) (ts : TreesOf Name) (actuals : List StandIn) (n k : ℕ) → PlainActuals f A ts actuals → map (moved n) (map (moved k) actuals) ≡ map (moved (n + k)) actuals
plains-moved f A _ _ n k plain_none = refl
plains-moved f A _ _ n k (plain_more {t = t} {ts = ts} {a = a} {rest = rest} p r) = λ i. plain-moved f A t a n k p i ∷ plains-moved f A ts rest n k r i

pub plain-still : (f : Name → MeaningOf Name) (A : List Declared) (t : TreeOf Name) (a : StandIn) → PlainActual f A t a → moved 0 a ≡ a
plain-still f A _ _ plain_self = refl
plain-still f A _ _ plain_nil = refl
plain-still f A _ _ plain_true = refl
plain-still f A _ _ plain_false = refl
plain-still f A _ _ (plain_number t z e) = refl
plain-still f A _ _ (plain_string t) = refl
plain-still f A _ _ (plain_symbol t) = refl
plain-still f A _ _ (plain_char b) = refl
plain-still f A _ _ (plain_argument x p e) = ap an_argument (none (place_in A x))
  where
    none : (k : ℕ) → 0 + k ≡ k
    none k = omega arith
plain-still f A _ _ (plain_class x c p e q) = refl

pub plains-still : (f : Name → MeaningOf Name) (A : List Declared) (ts : TreesOf Name) (actuals : List StandIn) → PlainActuals f A ts actuals → map (moved 0) actuals ≡ actuals
plains-still f A _ _ plain_none = refl
plains-still f A _ _ (plain_more {t = t} {ts = ts} {a = a} {rest = rest} p r) = λ i. plain-still f A t a p i ∷ plains-still f A ts rest r i

-- what is plain, inside further scopes
pub plain-inside : (f : Name → MeaningOf Name) (A inner : List Declared) (t : TreeOf Name) (a : StandIn) → PlainActual f A t a → IsFreeOf inner t → (tree_in f (inner ++ A) t ≡ stand_in (moved (length inner) a)) × IsRead (moved (length inner) a)
unfolding is_pseudo_variable
plain-inside f A inner _ _ plain_self h = (ap reading (word-read (inner ++ A) (f (codes "self")) (codes "self") refl), tt)
plain-inside f A inner _ _ plain_nil h = (ap reading (word-read (inner ++ A) (f (codes "nil")) (codes "nil") refl), tt)
plain-inside f A inner _ _ plain_true h = (ap reading (word-read (inner ++ A) (f (codes "true")) (codes "true") refl), tt)
plain-inside f A inner _ _ plain_false h = (ap reading (word-read (inner ++ A) (f (codes "false")) (codes "false") refl), tt)
plain-inside f A inner _ _ (plain_number t x e) h = (refl, tt)
plain-inside f A inner _ _ (plain_string t) h = (refl, tt)
plain-inside f A inner _ _ (plain_symbol t) h = (refl, tt)
plain-inside f A inner _ _ (plain_char b) h = (refl, tt)
plain-inside f A inner _ _ (plain_argument n p e) h =
    (ap reading (local-read (inner ++ A) (f n) n false p ((kind-behind inner A n (h p)).0 ∙ e) ∙ ap of_local (kind-behind inner A n (h p)).1), tt)
plain-inside f A inner _ _ (plain_class n c p e q) h =
    (ap reading (outer-read (inner ++ A) (f n) n p ((kind-behind inner A n (h p)).0 ∙ e) ∙ ap (λ m. reference_of m (place_in (inner ++ A) n) n) q), tt)

module _ (i : ResolvedImage) (gone : Allowed) where
  -- what is no local
  pub read-outer : (g : Context) (m : MeaningOf Name) (k j : ℕ) (n : Name) → IsOutside m → Unfolds i gone g (reading (reference_of m k n)) (reading (reference_of m j n))
  read-outer g pseudo k j n t = same_reading _ tt
  read-outer g (argument scope) k j n t = absurd t
  read-outer g (temporary scope) k j n t = absurd t
  read-outer g (variable of_instance c) k j n t = same_reading _ tt
  read-outer g (variable of_class_side c) k j n t = same_reading _ tt
  read-outer g (variable of_class c) k j n t = same_reading _ tt
  read-outer g (a_class c) k j n t = same_reading _ tt
  read-outer g transcript k j n t = same_reading _ tt
  read-outer g undeclared k j n t = same_reading _ tt

  pub target-outer : (g : Context) (m : MeaningOf Name) (k j : ℕ) (n : Name) {x x' : ResolvedTree} → IsOutside m → Unfolds i gone g x x' → Unfolds i gone g (assigning (target_of m k n) x) (assigning (target_of m j n) x')
  target-outer g pseudo k j n t r = same_assignment _ tt r
  target-outer g (argument scope) k j n t r = absurd t
  target-outer g (temporary scope) k j n t r = absurd t
  target-outer g (variable of_instance c) k j n t r = same_assignment _ tt r
  target-outer g (variable of_class_side c) k j n t r = same_assignment _ tt r
  target-outer g (variable of_class c) k j n t r = same_assignment _ tt r
  target-outer g (a_class c) k j n t r = same_assignment _ tt r
  target-outer g transcript k j n t r = same_assignment _ tt r
  target-outer g undeclared k j n t r = same_assignment _ tt r
