-- The witnesses of the conditions of classes and of variables are the same once names are changed one to one.
use Rattle.std.proofs.Common.{◌≡◌, Bool, not, ◌&&◌, ◌||◌, List, [], map, filter, flat_map, Option, Some, None, option_map, refl, ap, ◌∙◌}
use Rattle.std.specs.List.{list_any}
use Rattle.std.specs.Option.{option_map_or}
use Rattle.std.specs.Prelude.{if◌then◌else◌, unwrap_or}
use Rattle.image_model.specs.Image.{ClassOf, EntryOf, ImageOf, map_class, map_entry, map_image}
use Rattle.image_model.specs.Words.{WordsOf, KeepsWords}
use Rattle.image_model.specs.Chain.{class_named, chain}
use Rattle.image_model.specs.Nodes.{Use}
use Rattle.image_model.specs.Uses.{variable_uses, class_uses}
use Rattle.rename_model.specs.Conditions.{defines, stands_below, is_method_below}
use Rattle.command_model.specs.Commands.{CommandOf, PushUpInstVar, PushUpClassVar, kind_of}
use Rattle.command_model.specs.Hierarchy.{superclass_name, is_child, is_method_of}
use Rattle.command_model.specs.ClassConditions.{is_in_method_that}
use Rattle.command_model.specs.VariableConditions.{is_looked_through}
use Rattle.command_numbers.specs.MappedCommands.{map_command}
use Rattle.command_numbers.proofs.Lists.{any-total, flat-total}
use Rattle.command_numbers.proofs.Everywhere.{Every}
use Rattle.command_numbers.proofs.Classes.{class_there, chain-there, is_method_of-map, is_child-map, defines-map, stands_below-map, is_method_below-map, superclass_name-map}
use Rattle.command_numbers.proofs.UsesAsked.{class_uses-map, variable_uses-map}
use Rattle.command_numbers.proofs.VariableConditionsMapped.{kind_of-map, is_in_method_that-map, losers-map, is_looked_through-map}
use Rattle.refusal_witnesses.specs.Witnesses.{WitnessOf, AClass, a_use, a_class_of, where_true}
use Rattle.refusal_witnesses.specs.NameWitnesses.{namings_in_method}
use Rattle.refusal_witnesses.specs.ClassWitnesses.{outer_uses, looked_uses, kernel_class, kernel_parent, children, other_parent, own_definer, overlooked, hindrances}
use Rattle.witness_numbers.specs.MappedWitnesses.{map_witness}
use Rattle.witness_numbers.proofs.Gathered.{mapped, joined, where-map, then-map, maybe-map, uses-map, classes-map}
use Rattle.witness_numbers.proofs.NamesMapped.{namings_in_method-map}

module _ {M N : Type 0} (f : M → N) (w : WordsOf M) (v : WordsOf N) (keeps : KeepsWords Every f w v) (i : ImageOf M) where
  -- what is in the way of the class of a name
  of_class-map : (p : ClassOf M → List (WitnessOf M)) (q : ClassOf N → List (WitnessOf N)) → ((e : ClassOf M) → q (map_class f e) ≡ mapped f (p e)) → (c : M)
      → option_map_or q (class_named v.tests.same (map (map_class f) i.classes) (f c)) [] ≡ mapped f (option_map_or p (class_named w.tests.same i.classes c) [])
  of_class-map p q e c =
      ap (λ (o : Option (ClassOf N)). option_map_or q o []) (class_there f w v keeps i.classes c)
      ∙ maybe-map f (map_class f) p q e (class_named w.tests.same i.classes c)

  pub kernel_class-map : (c : M) → kernel_class v.tests.same (map_image f i) (f c) ≡ mapped f (kernel_class w.tests.same i c)
  kernel_class-map =
      of_class-map (λ (e : ClassOf M). where_true e.kernel (a_class_of e)) (λ (e : ClassOf N). where_true e.kernel (a_class_of e))
      (λ e. where-map f e.kernel e.kernel (a_class_of e) (a_class_of (map_class f e)) refl refl)

  pub kernel_parent-map : (c : M) → kernel_parent v.tests.same (map_image f i) (f c) ≡ mapped f (kernel_parent w.tests.same i c)
  kernel_parent-map c =
      ap (λ (o : Option N). option_map_or (kernel_class v.tests.same (map_image f i)) o []) (superclass_name-map f w v keeps i c)
      ∙ maybe-map f f (kernel_class w.tests.same i) (kernel_class v.tests.same (map_image f i)) kernel_class-map (superclass_name w.tests.same i c)

  pub children-map : (c : M) → children v.tests.same (map_image f i) (f c) ≡ mapped f (children w.tests.same i c)
  children-map c = classes-map f (is_child w.tests.same c) (is_child v.tests.same (f c)) (is_child-map f w v keeps c) i.classes

  -- the superclass, or else the class
  above-or : (o : Option M) (n : M) → unwrap_or (option_map f o) (f n) ≡ f (unwrap_or o n)
  above-or None n = refl
  above-or (Some m) n = refl

  pub other_parent-map : (d c : M) → other_parent v.tests.same (map_image f i) (f d) (f c) ≡ mapped f (other_parent w.tests.same i d c)
  other_parent-map d c =
      of_class-map (λ (e : ClassOf M). where_true (e.kernel || not (is_child w.tests.same c e)) (AClass (unwrap_or e.superclass e.name)))
      (λ (e : ClassOf N). where_true (e.kernel || not (is_child v.tests.same (f c) e)) (AClass (unwrap_or e.superclass e.name)))
      (λ e. where-map f (e.kernel || not (is_child w.tests.same c e)) (e.kernel || not (is_child v.tests.same (f c) (map_class f e))) (AClass (unwrap_or e.superclass e.name)) (AClass (unwrap_or (option_map f e.superclass) (f e.name)))
      (ap (λ (b : Bool). e.kernel || not b) (is_child-map f w v keeps c e)) (ap AClass (above-or e.superclass e.name))) d

  pub own_definer-map : (c x : M) → own_definer v.tests.same (map_image f i) (f c) (f x) ≡ mapped f (own_definer w.tests.same i c x)
  own_definer-map c x =
      of_class-map (λ (e : ClassOf M). where_true (defines w.tests.same x e) (a_class_of e)) (λ (e : ClassOf N). where_true (defines v.tests.same (f x) e) (a_class_of e))
      (λ e. where-map f (defines w.tests.same x e) (defines v.tests.same (f x) (map_class f e)) (a_class_of e) (a_class_of (map_class f e)) (defines-map f w v keeps x e) refl) c

  overlooked-map : (command : CommandOf M) (c x : M) → overlooked v.tests.same (map_image f i) (map_command f command) (f c) (f x) ≡ map f (overlooked w.tests.same i command c x)
  overlooked-map (PushUpInstVar b y) c x = losers-map f w v keeps i c x
  overlooked-map (PushUpClassVar b y) c x = refl
  overlooked-map command c x = refl

  module _ (excepted : List M) (c x : M) where
    -- classes and methods that are looked at
    abbrev below : ClassOf M → Bool
    below e = stands_below w.tests.same i.classes c e && (not (list_any (λ d. stands_below w.tests.same i.classes d e) excepted) && defines w.tests.same x e)

    abbrev below_there : ClassOf N → Bool
    below_there e =
        stands_below v.tests.same (map (map_class f) i.classes) (f c) e && (not (list_any (λ d. stands_below v.tests.same (map (map_class f) i.classes) d e) (map f excepted)) && defines v.tests.same (f x) e)

    below-map : (e : ClassOf M) → below_there (map_class f e) ≡ below e
    below-map e =
        λ j. stands_below-map f w v keeps i.classes c e j
        && (not (any-total f (λ d. stands_below w.tests.same i.classes d e) (λ d. stands_below v.tests.same (map (map_class f) i.classes) d (map_class f e)) (λ d. stands_below-map f w v keeps i.classes d e) excepted j)
        && defines-map f w v keeps x e j)

    abbrev looked_at : EntryOf M → Bool
    looked_at m = is_method_below w.tests.same i.classes c m && not (list_any (λ d. is_method_below w.tests.same i.classes d m) excepted)

    abbrev looked_at_there : EntryOf N → Bool
    looked_at_there m = is_method_below v.tests.same (map (map_class f) i.classes) (f c) m && not (list_any (λ d. is_method_below v.tests.same (map (map_class f) i.classes) d m) (map f excepted))

    looked_at-map : (m : EntryOf M) → looked_at_there (map_entry f m) ≡ looked_at m
    looked_at-map m =
        λ j. is_method_below-map f w v keeps i.classes c m j
        && not (any-total f (λ d. is_method_below w.tests.same i.classes d m) (λ d. is_method_below v.tests.same (map (map_class f) i.classes) d (map_entry f m)) (λ d. is_method_below-map f w v keeps i.classes d m) excepted j)

    pub hindrances-map : hindrances v.tests.same (map_image f i) (map f excepted) (f c) (f x) ≡ mapped f (hindrances w.tests.same i excepted c x)
    hindrances-map =
        joined f (map a_class_of (filter (defines w.tests.same x) (chain w.tests.same i.classes (Some c)))) _ _ _
        (ap (λ (es : List (ClassOf N)). map a_class_of (filter (defines v.tests.same (f x)) es)) (chain-there f w v keeps i.classes (Some c))
        ∙ classes-map f (defines w.tests.same x) (defines v.tests.same (f x)) (defines-map f w v keeps x) (chain w.tests.same i.classes (Some c)))
        (joined f (map a_class_of (filter below i.classes)) (flat_map (λ (m : EntryOf M). if looked_at m then namings_in_method w.tests.same x m else []) i.methods) _ _
        (classes-map f below below_there below-map i.classes)
        (flat-total (map_entry f) (map_witness f) (λ (m : EntryOf M). if looked_at m then namings_in_method w.tests.same x m else []) (λ (m : EntryOf N). if looked_at_there m then namings_in_method v.tests.same (f x) m else [])
        (λ m. then-map f (looked_at m) (looked_at_there (map_entry f m)) (namings_in_method w.tests.same x m) (namings_in_method v.tests.same (f x) (map_entry f m)) (looked_at-map m) (namings_in_method-map f w v keeps x m)) i.methods))

  pub hindrances_for-map : (command : CommandOf M) (c x : M)
      → hindrances v.tests.same (map_image f i) (overlooked v.tests.same (map_image f i) (map_command f command) (f c) (f x)) (f c) (f x) ≡ mapped f (hindrances w.tests.same i (overlooked w.tests.same i command c x) c x)
  hindrances_for-map command c x =
      ap (λ (ns : List N). hindrances v.tests.same (map_image f i) ns (f c) (f x)) (overlooked-map command c x) ∙ hindrances-map (overlooked w.tests.same i command c x) c x

  -- what means the class, and the variable
  pub outer_uses-map : (c : M) → outer_uses v (map_image f i) (f c) ≡ mapped f (outer_uses w i c)
  outer_uses-map c =
      (λ j. map (a_use {N = N}) (filter (λ (u : Use). not (is_in_method_that-map f w v keeps i (is_method_of w.tests.same c) (is_method_of v.tests.same (f c)) (is_method_of-map f w v keeps c) u.place j)) (class_uses-map f w v keeps i c j)))
      ∙ uses-map f (filter (λ (u : Use). not (is_in_method_that (is_method_of w.tests.same c) i u.place)) (class_uses w i c))

  module _ (command : CommandOf M) (c x : M) where
    -- the uses that a command looks at
    abbrev looked_for : Use → Bool
    looked_for u = is_in_method_that (is_looked_through w.tests.same i.classes command c) i u.place

    abbrev looked_for_there : Use → Bool
    looked_for_there u = is_in_method_that (is_looked_through v.tests.same (map (map_class f) i.classes) (map_command f command) (f c)) (map_image f i) u.place

    looked_for-map : (u : Use) → looked_for_there u ≡ looked_for u
    looked_for-map u =
        is_in_method_that-map f w v keeps i (is_looked_through w.tests.same i.classes command c) (is_looked_through v.tests.same (map (map_class f) i.classes) (map_command f command) (f c))
        (is_looked_through-map f w v keeps i command c) u.place

    pub looked_uses-map : looked_uses v (map_image f i) (map_command f command) (f c) (f x) ≡ mapped f (looked_uses w i command c x)
    looked_uses-map =
        (λ j. map (a_use {N = N}) (filter looked_for_there (variable_uses v (map_image f i) (f c) (f x) (kind_of-map f command j))))
        ∙ (λ j. map (a_use {N = N}) (filter (λ (u : Use). looked_for-map u j) (variable_uses-map f w v keeps i c x (kind_of command) j)))
        ∙ uses-map f (filter looked_for (variable_uses w i c x (kind_of command)))
