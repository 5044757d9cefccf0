-- Slots that are closed: those of an orderly image all of which are live, and closed ones with more that name what is there.
use Rattle.std.proofs.Common.{◌≡◌, ℕ, suc, ◌<◌, List, [], ◌∷◌, ◌++◌, length, map, Option, None, Some, slice_get, refl}
use Rattle.std.specs.List.{AllByRecursion}
use Rattle.std.proofs.lemmas.Option.{slice_get_within}
use Rattle.tree_model.specs.AllNames.{SequenceNames}
use Rattle.tree_model.proofs.AllNamesLemmas.{SequenceNames-implies}
use Rattle.st_tree.specs.View.{sequence_of}
use Rattle.image_model.specs.ImageNames.{OptionNames, ClassNames, EntryNames, DoItNames}
use Rattle.image_model.proofs.Lists.{all-implies}
use Rattle.class_table.specs.declared.record.ClassRec.{ClassRec}
use Rattle.class_table.specs.declared.record.MethodRec.{MethodRec}
use Rattle.class_table.specs.declared.record.DoIt.{DoIt}
use Rattle.class_table.specs.Order.{IsOrderOf}
use Rattle.class_table.specs.Slots.{Slots}
use Rattle.class_table.specs.View.{class_of, entry_of, doit_of}
use Rattle.class_table.specs.Valid.{IsOrderly}
use Rattle.class_table.proofs.Live.{live-fact}
use Rattle.wider_slots.specs.Closed.{ClassWithin, MethodWithin, DoItWithin, IsClosed}
use Rattle.live_slots.specs.Live.{AllLive}
use Rattle.wider_slots.specs.Wider.{More, MoreWithin, widened}
use Rattle.wider_slots.proofs.Widening.{class-within, method-within, more-names, more-classes}
use Rattle.wider_slots.proofs.Append.{further}

-- what holds at each place holds of each item
all-from : {X : Type 0} (P : X → Type 0) (xs : List X) → ((k : ℕ) (x : X) → slice_get xs k ≡ Some x → P x) → AllByRecursion P xs
all-from P [] h = tt
all-from P (x ∷ xs) h = (h 0 x refl, all-from P xs (λ k y e. h (suc k) y e))

-- of the items of a mapped list
all-unmap : (P : ℕ → Type 0) (ds : List DoIt) → AllByRecursion (DoItNames P) (map doit_of ds) → AllByRecursion (λ (d : DoIt). SequenceNames P (sequence_of d.body)) ds
all-unmap P [] a = tt
all-unmap P (d ∷ ds) a = (a.0, all-unmap P ds a.1)

-- of two lists one after the other
pub all-append : {X : Type 0} (P : X → Type 0) (xs ys : List X) → AllByRecursion P xs → AllByRecursion P ys → AllByRecursion P (xs ++ ys)
all-append P [] ys a b = b
all-append P (x ∷ xs) ys a b = (a.0, all-append P xs ys a.1 b)

module _ (s : Slots) (o : IsOrderly s) (all : AllLive s) where
  abbrev below : ℕ → Type 0
  below n = n < length s.names

  class-closed : (k : ℕ) (c : ClassRec) → slice_get s.classes k ≡ Some c → ClassWithin (length s.names) (length s.classes) c
  class-closed k c e =
      let live = all.classes k (slice_get_within s.classes k c e) in
      let is = live-fact (ClassNames below) (class_of s.classes) s.classes s.class_order k c o.names_known.classes live e in
      record { name = is.name; superclass = superclass c.superclass (λ j q. o.class_order.below j (o.superclasses_live j k c live e q)); instance = is.instance; shared = is.shared; class_side = is.class_side }
    where
      superclass : (up : Option ℕ) → ((j : ℕ) → up ≡ Some j → j < length s.classes) → OptionNames (λ j. j < length s.classes) up
      superclass None h = tt
      superclass (Some j) h = h j refl

  method-closed : (k : ℕ) (m : MethodRec) → slice_get s.methods k ≡ Some m → MethodWithin (length s.names) (length s.classes) m
  method-closed k m e =
      let live = all.methods k (slice_get_within s.methods k m e) in
      let is = live-fact (EntryNames below) (entry_of s.classes) s.methods s.method_order k m o.names_known.methods live e in
      record { class = o.class_order.below m.class (o.method_classes_live k m live e); tree = is.tree }

  pub orderly-closed : IsClosed s
  orderly-closed = record {
    names = o.names_distinct;
    orders = record { classes = o.class_order; methods = o.method_order };
    classes = all-from (ClassWithin (length s.names) (length s.classes)) s.classes class-closed;
    methods = all-from (MethodWithin (length s.names) (length s.classes)) s.methods method-closed;
    doits = all-unmap below s.doits o.names_known.doits;
  }

module _ (more : More) (s : Slots) (closed : IsClosed s) (within : MoreWithin s more) where
  abbrev n1 : ℕ
  n1 = length s.names

  abbrev n2 : ℕ
  n2 = length (s.names ++ more.names)

  abbrev c1 : ℕ
  c1 = length s.classes

  abbrev c2 : ℕ
  c2 = length (s.classes ++ more.classes)

  -- an order for as many slots or more
  pub order-more : (items : List ℕ) (m n : ℕ) → ((k : ℕ) → k < m → k < n) → IsOrderOf (record { items = items; slots = m }) → IsOrderOf (record { items = items; slots = n })
  order-more items m n h o = record { distinct = o.distinct; below = λ k l. h k (o.below k l) }

  pub more-closed : IsClosed (widened more s)
  more-closed = record {
    names = within.names;
    orders = record {
      classes = order-more s.class_order (length s.classes) (length (s.classes ++ more.classes)) (further s.classes more.classes) closed.orders.classes;
      methods = order-more s.method_order (length s.methods) (length (s.methods ++ more.methods)) (further s.methods more.methods) closed.orders.methods;
    };
    classes = all-append (ClassWithin n2 c2) s.classes more.classes (all-implies (ClassWithin n1 c1) (ClassWithin n2 c2) (class-within n1 n2 c1 c2 (more-names more s) (more-classes more s)) s.classes closed.classes) within.classes;
    methods = all-append (MethodWithin n2 c2) s.methods more.methods (all-implies (MethodWithin n1 c1) (MethodWithin n2 c2) (method-within n1 n2 c1 c2 (more-names more s) (more-classes more s)) s.methods closed.methods) within.methods;
    doits = all-implies (DoItWithin n1 c1) (DoItWithin n2 c2) (λ (d : DoIt) a. SequenceNames-implies (λ n. n < n1) (λ n. n < n2) (λ n h. further s.names more.names n h) (sequence_of d.body) a) s.doits closed.doits;
  }

-- one more do-it
pub doit-closed : (s : Slots) (d : DoIt) → IsClosed s → DoItWithin (length s.names) (length s.classes) d → IsClosed (record s { doits = s.doits ++ d ∷ [] })
doit-closed s d closed within = record {
  names = closed.names;
  orders = record { classes = closed.orders.classes; methods = closed.orders.methods };
  classes = closed.classes;
  methods = closed.methods;
  doits = all-append (DoItWithin (length s.names) (length s.classes)) s.doits (d ∷ []) closed.doits (within, tt);
}
