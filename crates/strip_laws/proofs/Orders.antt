-- The classes that are reached are in order.
use Rattle.std.proofs.Common.{◌≡◌, ◌≢◌, zero, suc, List, [], ◌∷◌, Option, Some, None, refl, sym, ap, ◌∙◌}
use Rattle.std.specs.Prelude.{Bool, true, false, cond, filter}
use Rattle.std.specs.List.{AllByRecursion}
use Rattle.std.proofs.lemmas.Bool.{false≢true}
use Rattle.rb_base.specs.Names.{text_eq}
use Rattle.image_model.specs.Image.{ClassOf, ImageOf}
use Rattle.image_model.specs.ImageNames.{OptionNames}
use Rattle.run_model.specs.Values.{Name}
use Rattle.mapped_model.specs.NamesOfImages.{HasOrderedClasses}
use Rattle.mapped_model.proofs.RenamedVariableLemmas.{at-all}
use Rattle.command_model.proofs.OrdersAfter.{StandsIn, Ordered, superclasses-ordered, ordered-superclasses}
use Rattle.strip_model.specs.Reach.{ReachOf, has_class, is_closed}
use Rattle.strip_model.specs.Stripped.{strip}
use Rattle.image_model.specs.Words.{text_words}
use Rattle.strip_laws.proofs.Listed.{filter-all, filter-once}
use Rattle.strip_laws.proofs.Closed.{superclass-in}

module _ (p : Name → Bool) where
  abbrev Passing : Option Name → Type 0
  Passing o = OptionNames (λ n. p n ≡ true) o

  kept : ClassOf Name → Bool
  kept e = p e.name

  -- the superclass that stood before
  above-left : (seen left : List Name) → ((n : Name) → p n ≡ true → StandsIn seen n → StandsIn left n) → (o : Option Name) → Passing o → OptionNames (StandsIn seen) o → OptionNames (StandsIn left) o
  above-left seen left h None q s = tt
  above-left seen left h (Some n) q s = h n q s

  -- one further that was seen
  seen-both : (m : Name) (seen left : List Name) → ((n : Name) → p n ≡ true → StandsIn seen n → StandsIn left n) → (n : Name) → p n ≡ true → StandsIn (m ∷ seen) n → StandsIn (m ∷ left) n
  seen-both m seen left h n q (zero, e) = (0, e)
  seen-both m seen left h n q (suc k, e) = let rest = h n q (k, e) in (suc rest.0, rest.1)

  seen-one : (m : Name) (seen left : List Name) → p m ≡ false → ((n : Name) → p n ≡ true → StandsIn seen n → StandsIn left n) → (n : Name) → p n ≡ true → StandsIn (m ∷ seen) n → StandsIn left n
  seen-one m seen left f h n q (zero, e) = let same : m ≡ n = cc in absurd (false≢true (sym f ∙ ap p same ∙ q))
  seen-one m seen left f h n q (suc k, e) = h n q (k, e)

  pub left-ordered : (seen left : List Name) (cs : List (ClassOf Name)) → ((n : Name) → p n ≡ true → StandsIn seen n → StandsIn left n) → AllByRecursion (λ (e : ClassOf Name). p e.name ≡ true → Passing e.superclass) cs → Ordered seen cs → Ordered left (filter (λ (e : ClassOf Name). p e.name) cs)
  left-ordered seen left [] h a o = tt
  left-ordered seen left (e ∷ cs) h a o =
      by (p e.name) refl (λ q. left-ordered (e.name ∷ seen) (e.name ∷ left) cs (seen-both e.name seen left h) a.1 o.1) (λ q. left-ordered (e.name ∷ seen) left cs (seen-one e.name seen left q h) a.1 o.1)
    where
      by : (b : Bool) → p e.name ≡ b → (p e.name ≡ true → Ordered (e.name ∷ left) (filter (λ (x : ClassOf Name). p x.name) cs)) → (p e.name ≡ false → Ordered left (filter (λ (x : ClassOf Name). p x.name) cs)) →
          Ordered left (cond b (e ∷ filter (λ (x : ClassOf Name). p x.name) cs) (filter (λ (x : ClassOf Name). p x.name) cs))
      by true q there gone = (above-left seen left h e.superclass (a.0 q) o.0, there q)
      by false q there gone = gone q

module _ (i : ImageOf Name) (r : ReachOf Name) (closed : is_closed text_words i r ≡ true) (before : HasOrderedClasses i) where
  -- the superclasses of classes that are reached are
  supers-in : AllByRecursion (λ (e : ClassOf Name). has_class text_eq r e.name ≡ true → OptionNames (λ n. has_class text_eq r n ≡ true) e.superclass) i.classes
  supers-in = at-all (λ (e : ClassOf Name). has_class text_eq r e.name ≡ true → OptionNames (λ n. has_class text_eq r n ≡ true) e.superclass) i.classes (λ k e at h. by e.superclass (λ n q. superclass-in i r closed k e n at h q))
    where
      by : (o : Option Name) → ((n : Name) → o ≡ Some n → has_class text_eq r n ≡ true) → OptionNames (λ n. has_class text_eq r n ≡ true) o
      by None h = tt
      by (Some n) h = h n refl

  pub strip-ordered : HasOrderedClasses (strip text_eq r i)
  strip-ordered = record {
    named = filter-all (λ (e : ClassOf Name). e.name ≢ []) (λ (e : ClassOf Name). has_class text_eq r e.name) i.classes before.named;
    distinct = filter-once (λ (e : ClassOf Name). e.name) (λ (e : ClassOf Name). has_class text_eq r e.name) i.classes before.distinct;
    before = ordered-superclasses (strip text_eq r i).classes (left-ordered (has_class text_eq r) [] [] i.classes (λ n q s. s) supers-in (superclasses-ordered i.classes before.before));
  }
