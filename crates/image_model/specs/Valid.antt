-- When an image is valid, and when it can be written as a file and read again.
use Rattle.std.specs.Prelude.{◌≡◌, ◌↔◌, ℕ, ◌<◌, ◌≤◌, List, length, map, filter, Contains, slice_get, Bool, false, IsTrue, Option, Some, None}
use Rattle.std.specs.List.{AllByRecursion, flat_map}
use Rattle.tree_model.specs.Tree.{SequenceOf, MethodOf}
use Rattle.tree_model.specs.Measure.{sequence_height}
use Rattle.tree_model.specs.Normal.{IsNormal}
use Rattle.image_model.specs.Image.{ClassOf, EntryOf, DoItOf, ImageOf}
use Rattle.image_model.specs.Words.{WordsOf}
use Rattle.image_model.specs.Chain.{chain_from}
use Rattle.image_model.specs.Means.{VariableKind, of_instance, of_class_side, of_class, variables}

-- What the layers above know and this one takes as given: which names may be given to classes and variables (an identifier that is no pseudo-variable, `Smalltalk` or `Transcript`), which method and which do-it a text spells by the grammar, which text may stand as a chunk (it is not empty and begins with no blank), which text is a do-it when it is read as a chunk outside a run, and the image of the kernel alone.
pub record ReadingOf (N : Type 0) : Type 1 where
  pub IsName : N → Type 0
  pub SpellsMethod : List ℕ → MethodOf N → Type 0
  pub SpellsDoIt : List ℕ → SequenceOf N → Type 0
  pub IsSource : List ℕ → Type 0
  pub IsDoItChunk : List ℕ → Type 0
  pub kernel : ImageOf N

-- nothing stands at two places of a list
abbrev pub HasNoRepeat : {X : Type 0} → List X → Type 0
HasNoRepeat {X} xs = (j k : ℕ) (x : X) → slice_get xs j ≡ Some x → slice_get xs k ≡ Some x → j ≡ k

-- the names of classes, in order
abbrev pub class_names : {N : Type 0} → List (ClassOf N) → List N
class_names classes = map (λ c. c.name) classes

-- a class of the name stands before a place
abbrev pub IsNamedBefore : {N : Type 0} → List (ClassOf N) → ℕ → N → Type 0
IsNamedBefore classes k n = (j : ℕ) × (j < k) × (slice_get (class_names classes) j ≡ Some n)

-- each superclass stands before its subclasses
abbrev pub SuperclassesStandBefore : {N : Type 0} → List (ClassOf N) → Type 0
SuperclassesStandBefore {N} classes =
    (k : ℕ) (c : ClassOf N) (n : N) → slice_get classes k ≡ Some c → c.superclass ≡ Some n → IsNamedBefore classes k n

-- `Object` has no superclass, and each other class has one
abbrev pub OnlyObjectIsRoot : {N : Type 0} → WordsOf N → List (ClassOf N) → Type 0
OnlyObjectIsRoot w classes = AllByRecursion (λ c. IsTrue (w.is_object c.name) ↔ (c.superclass ≡ None)) classes

-- the names that a class gives to itself and to its variables are names that may be given
pub record GivesNames {N : Type 0} (IsName : N → Type 0) (c : ClassOf N) : Type 0 where
  pub name : IsName c.name
  pub instance : AllByRecursion IsName c.instance
  pub class_side : AllByRecursion IsName c.class_side
  pub shared : AllByRecursion IsName c.shared

-- no variable of a kind is defined twice on the chain of a class
abbrev pub DefinesOnceOnChain : {N : Type 0} → (N → N → Bool) → List (ClassOf N) → VariableKind → ClassOf N → Type 0
DefinesOnceOnChain same classes kind c = HasNoRepeat (flat_map (variables kind) (chain_from same classes (Some c)))

-- the class, the side and the selector of a method
abbrev pub signature : {N : Type 0} → EntryOf N → Option N × Bool × N
signature m = (m.class, m.meta, m.tree.selector)

-- a method's class is one of these
abbrev pub HasClass : {N : Type 0} → List (ClassOf N) → EntryOf N → Type 0
HasClass {N} classes m = (n : N) × (m.class ≡ Some n) × Contains (class_names classes) n

-- the source of a method that is none of the kernel spells its tree, whose comments are in normal form and which has height at most 200 and no primitive
pub record IsUserMethod {N : Type 0} (r : ReadingOf N) (m : EntryOf N) : Type 0 where
  pub spells : r.SpellsMethod m.source m.tree
  pub normal : IsNormal m.tree
  pub height : sequence_height m.tree.body ≤ 200
  pub no_primitive : m.tree.primitive ≡ None

-- the source of a do-it spells its tree, which has height at most 200
pub record IsUserDoIt {N : Type 0} (r : ReadingOf N) (d : DoItOf N) : Type 0 where
  pub spells : r.SpellsDoIt d.source d.body
  pub height : sequence_height d.body ≤ 200

-- a valid image
pub record IsValid {N : Type 0} (w : WordsOf N) (r : ReadingOf N) (i : ImageOf N) : Type 0 where
  pub class_names_distinct : HasNoRepeat (class_names i.classes)
  pub superclasses_before : SuperclassesStandBefore i.classes
  pub only_object_is_root : OnlyObjectIsRoot w i.classes
  pub names_may_be_given : AllByRecursion (GivesNames r.IsName) i.classes
  pub instance_variables_once : AllByRecursion (DefinesOnceOnChain w.tests.same i.classes of_instance) i.classes
  pub class_side_variables_once : AllByRecursion (DefinesOnceOnChain w.tests.same i.classes of_class_side) i.classes
  pub class_variables_once : AllByRecursion (λ c. HasNoRepeat (variables of_class c)) i.classes
  pub methods_once : HasNoRepeat (map signature i.methods)
  pub method_classes_there : AllByRecursion (HasClass i.classes) i.methods
  pub user_methods : AllByRecursion (λ m. m.kernel ≡ false → IsUserMethod r m) i.methods
  pub doits : AllByRecursion (IsUserDoIt r) i.doits
  pub kernel_classes : filter (λ c. c.kernel) i.classes ≡ r.kernel.classes
  pub kernel_methods : filter (λ m. m.kernel) i.methods ≡ r.kernel.methods

-- a valid image that can be written as a file and read again: each user source may stand as a chunk, each do-it is read as one, and there are no more do-its before all else than there are do-its
pub record IsFileable {N : Type 0} (r : ReadingOf N) (i : ImageOf N) : Type 0 where
  pub method_sources : AllByRecursion (λ m. m.kernel ≡ false → r.IsSource m.source) i.methods
  pub doit_sources : AllByRecursion (λ (d : DoItOf N). r.IsSource d.source) i.doits
  pub doit_chunks : AllByRecursion (λ (d : DoItOf N). r.IsDoItChunk d.source) i.doits
  pub heads_within : i.heads ≤ length i.doits
