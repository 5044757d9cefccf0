-- When lists of witnesses are empty.
use Rattle.std.proofs.Common.{◌≡◌, ℕ, List, [], ◌∷◌, ◌++◌, Option, Some, None, map, refl, ap, ◌∙◌}
use Rattle.std.specs.Prelude.{Bool, true, false, cond, not, ◌&&◌, ◌||◌, filter, is_some, ◌+◌}
use Rattle.std.specs.List.{list_any, list_all, flat_map, enumerate_from}
use Rattle.std.specs.Option.{option_map_or}
use Rattle.scope_model.specs.Control.{is_empty}
use Rattle.tree_model.specs.Tree.{SequenceOf}
use Rattle.tree_model.specs.Nodes.{Placed, nodes}
use Rattle.image_model.specs.Image.{DoItOf, ImageOf}
use Rattle.image_model.specs.Nodes.{in_doit}
use Rattle.refusal_witnesses.specs.Witnesses.{OwnerOf, AtPlace, WitnessOf, a_node, where_true, nodes_that, in_doits}

pub not-or : (b c : Bool) → (not b && not c) ≡ not (b || c)
not-or true c = refl
not-or false c = refl

pub or-or : (b c d : Bool) → ((b || c) || d) ≡ (b || (c || d))
or-or true c d = refl
or-or false c d = refl

pub and-and : (b c d : Bool) → ((b && c) && d) ≡ (b && (c && d))
and-and true c d = refl
and-and false c d = refl

pub and-same : (b c : Bool) → (b && (b && c)) ≡ (b && c)
and-same true c = refl
and-same false c = refl

pub not-not : (b : Bool) → not (not b) ≡ b
not-not true = refl
not-not false = refl

-- lists that are joined, mapped, filtered and made of lists
pub empty-append : {X : Type 0} (xs ys : List X) → is_empty (xs ++ ys) ≡ (is_empty xs && is_empty ys)
empty-append [] ys = refl
empty-append (x ∷ xs) ys = refl

pub empty-map : {X Y : Type 0} (f : X → Y) (xs : List X) → is_empty (map f xs) ≡ is_empty xs
empty-map f [] = refl
empty-map f (x ∷ xs) = refl

pub empty-filter : {X : Type 0} (p : X → Bool) (xs : List X) → is_empty (filter p xs) ≡ not (list_any p xs)
empty-filter p [] = refl
empty-filter p (x ∷ xs) = by (p x) (empty-filter p xs)
  where
    by : (b : Bool) → is_empty (filter p xs) ≡ not (list_any p xs) → is_empty (cond b (x ∷ filter p xs) (filter p xs)) ≡ not (b || list_any p xs)
    by true h = refl
    by false h = h

pub empty-failing : {X : Type 0} (p : X → Bool) (xs : List X) → is_empty (filter (λ x. not (p x)) xs) ≡ list_all p xs
empty-failing p [] = refl
empty-failing p (x ∷ xs) = by (p x) (empty-failing p xs)
  where
    by : (b : Bool) → is_empty (filter (λ y. not (p y)) xs) ≡ list_all p xs → is_empty (cond (not b) (x ∷ filter (λ y. not (p y)) xs) (filter (λ y. not (p y)) xs)) ≡ (b && list_all p xs)
    by true h = h
    by false h = refl

pub empty-flat : {X Y : Type 0} (f : X → List Y) (xs : List X) → is_empty (flat_map f xs) ≡ list_all (λ x. is_empty (f x)) xs
empty-flat f [] = refl
empty-flat f (x ∷ xs) = empty-append (f x) (flat_map f xs) ∙ ap (λ b. is_empty (f x) && b) (empty-flat f xs)

pub all-same : {X : Type 0} (p q : X → Bool) → ((x : X) → p x ≡ q x) → (xs : List X) → list_all p xs ≡ list_all q xs
all-same p q h [] = refl
all-same p q h (x ∷ xs) = λ i. h x i && all-same p q h xs i

pub all-not : {X : Type 0} (p : X → Bool) (xs : List X) → list_all (λ x. not (p x)) xs ≡ not (list_any p xs)
all-not p [] = refl
all-not p (x ∷ xs) = ap (λ b. not (p x) && b) (all-not p xs) ∙ not-or (p x) (list_any p xs)

pub all-enumerated : {X : Type 0} (p : X → Bool) (k : ℕ) (xs : List X) → list_all (λ (e : ℕ × X). p e.1) (enumerate_from k xs) ≡ list_all p xs
all-enumerated p k [] = refl
all-enumerated p k (x ∷ xs) = ap (λ b. p x && b) (all-enumerated p (k + 1) xs)

-- a list made of lists of which each is empty where a test fails, or where it passes
pub flat-none : {X Y : Type 0} (f : X → List Y) (t : X → Bool) → ((x : X) → is_empty (f x) ≡ not (t x)) → (xs : List X) → is_empty (flat_map f xs) ≡ not (list_any t xs)
flat-none f t h xs = empty-flat f xs ∙ all-same (λ x. is_empty (f x)) (λ x. not (t x)) h xs ∙ all-not t xs

pub flat-all : {X Y : Type 0} (f : X → List Y) (t : X → Bool) → ((x : X) → is_empty (f x) ≡ t x) → (xs : List X) → is_empty (flat_map f xs) ≡ list_all t xs
flat-all f t h xs = empty-flat f xs ∙ all-same (λ x. is_empty (f x)) t h xs

-- joined lists that are empty where tests fail
pub two-none : {X : Type 0} (xs ys : List X) (b c : Bool) → is_empty xs ≡ not b → is_empty ys ≡ not c → is_empty (xs ++ ys) ≡ not (b || c)
two-none xs ys b c h k = empty-append xs ys ∙ (λ i. h i && k i) ∙ not-or b c

pub two-all : {X : Type 0} (xs ys : List X) (b c : Bool) → is_empty xs ≡ b → is_empty ys ≡ c → is_empty (xs ++ ys) ≡ (b && c)
two-all xs ys b c h k = empty-append xs ys ∙ (λ i. h i && k i)

-- lists that are there only where a test is true, or false
pub empty-where : {N : Type 0} (b : Bool) (w : WitnessOf N) → is_empty (where_true b w) ≡ not b
empty-where true w = refl
empty-where false w = refl

pub empty-unless : {N : Type 0} (b : Bool) (w : WitnessOf N) → is_empty (where_true (not b) w) ≡ b
empty-unless true w = refl
empty-unless false w = refl

pub empty-if : {X : Type 0} (b : Bool) (xs : List X) (t : Bool) → is_empty xs ≡ not t → is_empty (cond b xs []) ≡ not (b && t)
empty-if true xs t h = h
empty-if false xs t h = refl

pub empty-else : {X : Type 0} (b : Bool) (xs : List X) (t : Bool) → is_empty xs ≡ not t → is_empty (cond b [] xs) ≡ not (not b && t)
empty-else true xs t h = refl
empty-else false xs t h = h

pub empty-or : {X : Type 0} (b : Bool) (xs : List X) (t : Bool) → is_empty xs ≡ t → is_empty (cond b [] xs) ≡ (b || t)
empty-or true xs t h = refl
empty-or false xs t h = h

pub empty-head : {N : Type 0} (b : Bool) (w : WitnessOf N) (ws : List (WitnessOf N)) (t : Bool) → is_empty ws ≡ not t → is_empty (where_true b w ++ ws) ≡ not (b || t)
empty-head true w ws t h = refl
empty-head false w ws t h = h

-- nodes, and what stands in do-its
pub empty-nodes : {N : Type 0} (test : Placed N → Bool) (owner : OwnerOf N) (b : SequenceOf N) → is_empty (nodes_that test owner b) ≡ not (list_any test (nodes b))
empty-nodes test owner b = empty-map (λ e. a_node owner e.0) (filter test (nodes b)) ∙ empty-filter test (nodes b)

pub empty-doits : {N : Type 0} (f : OwnerOf N → SequenceOf N → List (WitnessOf N)) (t : SequenceOf N → Bool) → ((owner : OwnerOf N) (b : SequenceOf N) → is_empty (f owner b) ≡ not (t b)) → (i : ImageOf N) → is_empty (in_doits f i) ≡ not (list_any (λ (d : DoItOf N). t d.body) i.doits)
empty-doits {N} f t h i =
    flat-all (λ (e : ℕ × DoItOf N). f (AtPlace (in_doit e.0)) e.1.body) (λ (e : ℕ × DoItOf N). not (t e.1.body)) (λ e. h (AtPlace (in_doit e.0)) e.1.body) (enumerate_from 0 i.doits)
    ∙ all-enumerated (λ (d : DoItOf N). not (t d.body)) 0 i.doits
    ∙ all-not (λ (d : DoItOf N). t d.body) i.doits

-- what is there or not, with its test and its list
pub of-option : {X Y : Type 0} (test : X → Bool) (f : X → List Y) → ((x : X) → test x ≡ is_empty (f x)) → (o : Option X) → option_map_or test o false ≡ (is_some o && is_empty (option_map_or f o []))
of-option test f h None = refl
of-option test f h (Some x) = h x

pub of-two : {X Y Z : Type 0} (inner : X → Option Y) (test : X → Y → Bool) (f : X → Y → List Z) → ((x : X) (y : Y) → test x y ≡ is_empty (f x y)) → (o : Option X) → option_map_or (λ x. option_map_or (test x) (inner x) false) o false ≡ (option_map_or (λ x. is_some (inner x)) o false && is_empty (option_map_or (λ x. option_map_or (f x) (inner x) []) o []))
of-two inner test f h None = refl
of-two inner test f h (Some x) = of-option (test x) (f x) (h x) (inner x)

-- where what is not there counts as passing, or as failing with a witness
pub passing-option : {X Y : Type 0} (test : X → Bool) (f : X → List Y) → ((x : X) → test x ≡ is_empty (f x)) → (o : Option X) → option_map_or test o true ≡ is_empty (option_map_or f o [])
passing-option test f h None = refl
passing-option test f h (Some x) = h x

pub failing-option : {X Y : Type 0} (test : X → Bool) (f : X → List Y) (y : Y) → ((x : X) → test x ≡ is_empty (f x)) → (o : Option X) → option_map_or test o false ≡ is_empty (option_map_or f o (y ∷ []))
failing-option test f y h None = refl
failing-option test f y h (Some x) = h x

-- a list that is there where a test is false
pub if-false : {X : Type 0} (b : Bool) (x : X) (xs : List X) → b ≡ is_empty (cond b [] (x ∷ xs))
if-false true x xs = refl
if-false false x xs = refl
