-- When the look-ups of two images agree on all that their runs reach.
use Rattle.std.specs.Prelude.{◌≡◌, ℕ, List, Bool, true, false, Some, Option, Contains}
use Rattle.std.specs.List.{AllByRecursion}
use Rattle.rb_base.specs.Names.{text_eq}
use Rattle.tree_model.specs.Tree.{TreeOf, SequenceOf}
use Rattle.tree_model.specs.Path.{part_in}
use Rattle.image_model.specs.Image.{ClassOf, EntryOf, DoItOf, ImageOf}
use Rattle.image_model.specs.ImageNames.{OptionNames}
use Rattle.image_model.specs.Words.{text_words}
use Rattle.image_model.specs.Lookup.{lookup, super_lookup}
use Rattle.image_model.specs.Means.{MeaningOf, means, means_in_doit}
use Rattle.image_model.specs.Uses.{name_used}
use Rattle.class_chains.specs.Chains.{is_on_chain}
use Rattle.run_model.specs.Values.{Name}
use Rattle.run_model.specs.ObjectPrimitives.{value_classes}
use Rattle.run_model.specs.Runs.{doit_class}
use Rattle.command_model.specs.SameMethods.{is_same_found}
use Rattle.agreement_laws.specs.Reaching.{is_super, Sends, SendsAbove, ReadsAClass}

-- what runs of an image reach: classes, selectors and methods
pub record Reached : Type 0 where
  pub classes : List Name
  pub selectors : List Name
  pub methods : List (EntryOf Name)

module _ (r : Reached) (i j : ImageOf Name) where
  -- code that reads no other classes and sends no other selectors, by what names mean there
  pub record IsWithin (at : List ℕ → Name → MeaningOf Name) (b : SequenceOf Name) : Type 0 where
    pub reads : (c : Name) → ReadsAClass at b c → Contains r.classes c
    pub sends : (s : Name) → Sends b s → Contains r.selectors s

  -- what is found in i is one of the methods, and is the same as what is found in j; or nothing is found in either
  abbrev pub IsFound : Option (EntryOf Name) → Option (EntryOf Name) → Type 0
  IsFound o p = OptionNames (Contains r.methods) o × (is_same_found text_words is_super i j o p ≡ true)

  -- the same is found for the messages to `super` in code of a class and side
  abbrev pub FindsAbove : Option Name → Bool → Option Name → Bool → SequenceOf Name → Type 0
  FindsAbove c b d e code = (s : Name) → SendsAbove code s → IsFound (super_lookup text_words i c b s) (super_lookup text_words j d e s)

  -- each name in a do-it means the same in both
  abbrev pub MeansSameIn : DoItOf Name → Type 0
  MeansSameIn d = (path : List ℕ) (u : TreeOf Name) (n : Name) → part_in d.body path ≡ Some u → name_used u ≡ Some n → means_in_doit text_words i d path n ≡ means_in_doit text_words j d path n

  -- The do-its are equal, and each name in them means the same. The classes of which the language itself speaks are among the classes; so is each that a do-it or one of the methods reads, and each selector that they send is among the selectors. From each class the same is found for each selector, on both sides, and so it is for messages to `super`; what is found is among the methods. Classes stand on each other's chains in both images or in neither.
  pub record AgreeOnReached : Type 0 where
    pub doits : j.doits ≡ i.doits
    pub doits_mean : AllByRecursion MeansSameIn i.doits
    pub doits_within : AllByRecursion (λ (d : DoItOf Name). IsWithin (means_in_doit text_words i d) d.body) i.doits
    pub doits_above : AllByRecursion (λ (d : DoItOf Name). FindsAbove (doit_class i) false (doit_class j) false d.body) i.doits
    pub methods_within : AllByRecursion (λ (m : EntryOf Name). IsWithin (means text_words i m) m.tree.body) r.methods
    pub methods_above : AllByRecursion (λ (m : EntryOf Name). FindsAbove m.class m.meta m.class m.meta m.tree.body) r.methods
    pub kernel : AllByRecursion (Contains r.classes) value_classes
    pub found : (c : Name) (b : Bool) (s : Name) → Contains r.classes c → Contains r.selectors s → IsFound (lookup text_words i (Some c) b s) (lookup text_words j (Some c) b s)
    pub kinds : (c d : Name) → Contains r.classes c → Contains r.classes d →
        is_on_chain text_eq j.classes d (Some c) ≡ is_on_chain text_eq i.classes d (Some c)

  -- The same where all classes of the kernel are among the classes, so that nothing need be said of messages to `super` in do-its.
  pub record LookupsAgree : Type 0 where
    pub doits : j.doits ≡ i.doits
    pub doits_mean : AllByRecursion MeansSameIn i.doits
    pub doits_within : AllByRecursion (λ (d : DoItOf Name). IsWithin (means_in_doit text_words i d) d.body) i.doits
    pub methods_within : AllByRecursion (λ (m : EntryOf Name). IsWithin (means text_words i m) m.tree.body) r.methods
    pub methods_above : AllByRecursion (λ (m : EntryOf Name). FindsAbove m.class m.meta m.class m.meta m.tree.body) r.methods
    pub kernel : AllByRecursion (λ (e : ClassOf Name). e.kernel ≡ true → Contains r.classes e.name) i.classes
    pub found : (c : Name) (b : Bool) (s : Name) → Contains r.classes c → Contains r.selectors s → IsFound (lookup text_words i (Some c) b s) (lookup text_words j (Some c) b s)
    pub kinds : (c d : Name) → Contains r.classes c → Contains r.classes d →
        is_on_chain text_eq j.classes d (Some c) ≡ is_on_chain text_eq i.classes d (Some c)
