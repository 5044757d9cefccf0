-- What the tests of classes and methods tell.
use Rattle.std.proofs.Common.{◌≡◌, inl, inr, Bool, true, false, List, [], ◌∷◌, map, Option, Some, None, slice_get, refl, ap, sym, subst, ◌∙◌, arith, true≢false, ℕ, suc}
use Rattle.std.specs.Prelude.{◌&&◌, option_map}
use Rattle.std.specs.Bool.{beq}
use Rattle.std.specs.Option.{option_eq}
use Rattle.std.proofs.lemmas.Bool.{and_parts}
use Rattle.std.proofs.lemmas.Option.{slice_get-map}
use Rattle.rb_base.specs.Names.{text_eq}
use Rattle.rb_base.proofs.NamesLemmas.{text_eq-refl}
use Rattle.token_model.specs.declared.kind.Dialect.TheVariants.{Second}
use Rattle.grammar_model.specs.Spelling.{SpellsMethod}
use Rattle.grammar_model.proofs.Texts.{one_SpellsMethod}
use Rattle.image_model.specs.Image.{ClassOf, EntryOf}
use Rattle.image_model.specs.Valid.{HasNoRepeat}
use Rattle.file_model.specs.Filing.{Text}
use Rattle.file_model.specs.Written.{run_of}
use Rattle.file_laws.proofs.Moves.{text_equal}
use Rattle.file_laws.proofs.Methods.{beq_equal}
use Rattle.file_laws.proofs.Redefined.{no_repeat_behind}
use Rattle.change_model.specs.Equal.{names_eq, is_namesake, is_counterpart, is_equal_class, is_equal_method}
use Rattle.change_laws.specs.Merged.{Has, AreApart}
use Rattle.change_laws.proofs.Placing.{all_from}

pub side_same : (b : Bool) → beq b b ≡ true
side_same true = refl
side_same false = refl

pub name_same : (o : Option Text) → option_eq text_eq o o ≡ true
name_same None = refl
name_same (Some n) = text_eq-refl n

name_equal : (o p : Option Text) → option_eq text_eq o p ≡ true → o ≡ p
name_equal None None h = refl
name_equal None (Some n) h = absurd (true≢false (sym h))
name_equal (Some m) None h = absurd (true≢false (sym h))
name_equal (Some m) (Some n) h = ap Some (text_equal m n h)

names_same : (ns : List Text) → names_eq ns ns ≡ true
names_same [] = refl
names_same (n ∷ ns) = λ j. text_eq-refl n j && names_same ns j

names_equal : (ms ns : List Text) → names_eq ms ns ≡ true → ms ≡ ns
names_equal [] [] h = refl
names_equal [] (n ∷ ns) h = absurd (true≢false (sym h))
names_equal (m ∷ ms) [] h = absurd (true≢false (sym h))
names_equal (m ∷ ms) (n ∷ ns) h = let p = and_parts (text_eq m n) (names_eq ms ns) h in λ j. text_equal m n p.0 j ∷ names_equal ms ns p.1 j

-- classes of one name
pub namesake_same : (c : ClassOf Text) → is_namesake c c ≡ true
namesake_same c = text_eq-refl c.name

pub namesake_back : (c d : ClassOf Text) → is_namesake c d ≡ true → is_namesake d c ≡ true
namesake_back c d h = ap (text_eq d.name) (text_equal c.name d.name h) ∙ text_eq-refl d.name

pub namesake_through : (c d e : ClassOf Text) → is_namesake c d ≡ true → is_namesake d e ≡ true → is_namesake c e ≡ true
namesake_through c d e h k = ap (λ (n : Text). text_eq n e.name) (text_equal c.name d.name h) ∙ k

pub class_same : (c : ClassOf Text) → is_equal_class c c ≡ true
class_same c = λ j.
    text_eq-refl c.name j && (name_same c.superclass j && (names_same c.instance j && (names_same c.shared j && (names_same c.class_side j && (text_eq-refl c.category j && (text_eq-refl c.comment j && side_same c.kernel j))))))

record EqualClasses (c d : ClassOf Text) : Type 0 where
  name : text_eq c.name d.name ≡ true
  class : c ≡ d

equal_classes : (c d : ClassOf Text) → is_equal_class c d ≡ true → EqualClasses c d
equal_classes c d h =
    let six = text_eq c.comment d.comment && beq c.kernel d.kernel in
    let five = text_eq c.category d.category && six in
    let four = names_eq c.class_side d.class_side && five in
    let three = names_eq c.shared d.shared && four in
    let two = names_eq c.instance d.instance && three in
    let one = option_eq text_eq c.superclass d.superclass && two in
    let a = and_parts (text_eq c.name d.name) one h in
    let b = and_parts (option_eq text_eq c.superclass d.superclass) two a.1 in
    let e = and_parts (names_eq c.instance d.instance) three b.1 in
    let f = and_parts (names_eq c.shared d.shared) four e.1 in
    let g = and_parts (names_eq c.class_side d.class_side) five f.1 in
    let k = and_parts (text_eq c.category d.category) six g.1 in
    let l = and_parts (text_eq c.comment d.comment) (beq c.kernel d.kernel) k.1 in
    record {
      name = a.0;
      class = λ j. record {
        name = text_equal c.name d.name a.0 j;
        superclass = name_equal c.superclass d.superclass b.0 j;
        instance = names_equal c.instance d.instance e.0 j;
        shared = names_equal c.shared d.shared f.0 j;
        class_side = names_equal c.class_side d.class_side g.0 j;
        category = text_equal c.category d.category k.0 j;
        comment = text_equal c.comment d.comment l.0 j;
        kernel = beq_equal c.kernel d.kernel l.1 j;
      };
    }

pub class_alike : (c d : ClassOf Text) → is_equal_class c d ≡ true → is_namesake c d ≡ true
class_alike c d h = (equal_classes c d h).name

pub class_equal : (c d : ClassOf Text) → is_equal_class c d ≡ true → c ≡ d
class_equal c d h = (equal_classes c d h).class

-- methods of one class, side and selector
pub record Counterparts (m n : EntryOf Text) : Type 0 where
  pub class : (run_of m).class ≡ (run_of n).class
  pub meta : m.meta ≡ n.meta
  pub selector : m.tree.selector ≡ n.tree.selector

pub counterparts : (m n : EntryOf Text) → is_counterpart m n ≡ true → Counterparts m n
counterparts m n h =
    let p = and_parts (text_eq (run_of m).class (run_of n).class && beq m.meta n.meta) (text_eq m.tree.selector n.tree.selector) h in
    let q = and_parts (text_eq (run_of m).class (run_of n).class) (beq m.meta n.meta) p.0 in
    record { class = text_equal (run_of m).class (run_of n).class q.0; meta = beq_equal m.meta n.meta q.1; selector = text_equal m.tree.selector n.tree.selector p.1 }

counterpart_of : (m n : EntryOf Text) → Counterparts m n → is_counterpart m n ≡ true
counterpart_of m n c =
    (λ j. text_eq (c.class j) (run_of n).class && beq (c.meta j) n.meta && text_eq (c.selector j) n.tree.selector)
    ∙ (λ j. text_eq-refl (run_of n).class j && side_same n.meta j && text_eq-refl n.tree.selector j)

pub counterpart_same : (m : EntryOf Text) → is_counterpart m m ≡ true
counterpart_same m = λ j. text_eq-refl (run_of m).class j && side_same m.meta j && text_eq-refl m.tree.selector j

pub counterpart_back : (m n : EntryOf Text) → is_counterpart m n ≡ true → is_counterpart n m ≡ true
counterpart_back m n h = let c = counterparts m n h in counterpart_of n m (record { class = sym c.class; meta = sym c.meta; selector = sym c.selector })

pub counterpart_through : (m n o : EntryOf Text) → is_counterpart m n ≡ true → is_counterpart n o ≡ true → is_counterpart m o ≡ true
counterpart_through m n o h k =
    let c = counterparts m n h in let d = counterparts n o k in
    counterpart_of m o (record { class = c.class ∙ d.class; meta = c.meta ∙ d.meta; selector = c.selector ∙ d.selector })

pub method_same : (m : EntryOf Text) → is_equal_method m m ≡ true
method_same m = λ j. counterpart_same m j && (text_eq-refl m.protocol j && (text_eq-refl m.source j && side_same m.kernel j))

pub method_alike : (m n : EntryOf Text) → is_equal_method m n ≡ true → is_counterpart m n ≡ true
method_alike m n h = (and_parts (is_counterpart m n) (text_eq m.protocol n.protocol && (text_eq m.source n.source && beq m.kernel n.kernel)) h).0

-- a method of a user: it has a class, and its source spells its tree
pub record IsSpelled (m : EntryOf Text) : Type 0 where
  pub class : m.class ≡ Some (run_of m).class
  pub spells : SpellsMethod Second false m.source m.tree

pub method_equal : (m n : EntryOf Text) → IsSpelled m → IsSpelled n → is_equal_method m n ≡ true → m ≡ n
method_equal m n s t h =
    let a = and_parts (is_counterpart m n) (text_eq m.protocol n.protocol && (text_eq m.source n.source && beq m.kernel n.kernel)) h in
    let b = and_parts (text_eq m.protocol n.protocol) (text_eq m.source n.source && beq m.kernel n.kernel) a.1 in
    let e = and_parts (text_eq m.source n.source) (beq m.kernel n.kernel) b.1 in
    let c = counterparts m n a.0 in
    let source = text_equal m.source n.source e.0 in
    let class : m.class ≡ n.class = s.class ∙ ap Some c.class ∙ sym t.class in
    let tree : m.tree ≡ n.tree = one_SpellsMethod Second false n.source m.tree n.tree (subst (λ (x : Text). SpellsMethod Second false x m.tree) source s.spells) t.spells in
    λ j. record { class = class j; meta = c.meta j; protocol = text_equal m.protocol n.protocol b.0 j; source = source j; tree = tree j; kernel = beq_equal m.kernel n.kernel e.1 j }

-- items at places
pub has_at : {X : Type 0} (xs : List X) (z : X) → Has z xs → (j : ℕ) × (slice_get xs j ≡ Some z)
has_at [] z h = absurd h
has_at (x ∷ xs) z (inl e) = (0, ap Some (sym e))
has_at (x ∷ xs) z (inr h) = let p = has_at xs z h in (suc p.0, p.1)

pub at_map : {X Y : Type 0} (f : X → Y) (xs : List X) (j : ℕ) (x : X) → slice_get xs j ≡ Some x → slice_get (map f xs) j ≡ Some (f x)
at_map f xs j x e = slice_get-map f xs j ∙ ap (option_map f) e

-- where no name stands twice, no two are alike
pub apart_from : {X Y : Type 0} (key : X → Y) (alike : X → X → Bool) (xs : List X) → ((x y : X) → Has x xs → Has y xs → alike x y ≡ true → key x ≡ key y) → HasNoRepeat (map key xs) → AreApart alike xs
apart_from key alike [] tells once = tt
apart_from key alike (x ∷ xs) tells once = (
  all_from (λ y. alike x y ≡ true → ⊥) xs (λ y h e. let p = has_at xs y h in let twice : 0 ≡ suc p.0 = once 0 (suc p.0) (key x) refl (at_map key xs p.0 y p.1 ∙ ap Some (sym (tells x y (inl refl) (inr h) e))) in omega (arith, twice)),
  apart_from key alike xs (λ y z h k e. tells y z (inr h) (inr k) e) (no_repeat_behind (key x) (map key xs) once),
)
