-- The classes and the methods of the kernel are marked as such, and no class of the kernel has class-instance variables.
use Rattle.std.proofs.Common.{◌≡◌, ℕ, zero, suc, Bool, true, false, not, List, [], ◌∷◌, ◌++◌, length, map, find, Option, Some, None, Ok, refl, sym, subst, ◌∙◌, append_assoc, append-nil, true≢false}
use Rattle.std.specs.Prelude.{◌==◌, ◌&&◌, if◌then◌else◌, is_some}
use Rattle.std.specs.List.{AllByRecursion}
use Rattle.std.specs.Option.{option_map_or}
use Rattle.rb_base.specs.Names.{text_eq}
use Rattle.token_model.specs.declared.kind.Dialect.{Dialect}
use Rattle.tree_model.specs.Tree.{MethodOf}
use Rattle.image_model.specs.Image.{ClassOf, EntryOf, ImageOf}
use Rattle.image_model.specs.ImageNames.{OptionNames}
use Rattle.image_model.specs.Chain.{class_named}
use Rattle.image_model.specs.Lookup.{is_method}
use Rattle.image_model.proofs.Ends.{all-end}
use Rattle.image_model.proofs.Lists.{find-all}
use Rattle.file_model.specs.Changes.{DefinitionOf, ChangeOf, Define, DefineAt, Comment, SetClassSide, RemoveMethod, RemoveClass, RunOf}
use Rattle.file_model.specs.Hierarchy.{has_class, is_kernel_class, can_follow, without_first, settle_behind, settled}
use Rattle.file_model.specs.Refusals.{has_method, definition_refusals, comment_refusals, class_side_refusals, removal_refusals, class_removal_refusals, method_refusals}
use Rattle.file_model.specs.Applied.{new_class, class_again, changed_class, with_definition, defined, with_class_side, with_comment, is_of_class, without_class, without_method, changed, entry_in, with_method, method_added}
use Rattle.file_model.specs.Filing.{Text}
use Rattle.file_model.specs.Reading.{IsKernelOf}
use Rattle.file_laws.proofs.Sound.{All-filter, All-replaced}
use Rattle.file_rereading.proofs.Fresh.{none_in}
use Rattle.file_model.specs.Places.{PlacesOf, put_again_behind, class_place, method_place, placed}
use Rattle.file_laws.proofs.PutAgain.{put_again_behind_same}
use Rattle.file_laws.proofs.Refused.{allowed}
use Rattle.file_laws.proofs.SettledAgain.{All-reordered}
use Rattle.file_laws.proofs.Taking.{IsKeptByChunks, kept_kernel}

-- a fact of what is left where the first item that passes is taken out
all_without : {X : Type 0} (P : X → Type 0) (p : X → Bool) (xs : List X) → AllByRecursion P xs → AllByRecursion P (without_first p xs)
all_without P p [] all = tt
all_without P p (x ∷ xs) all = by (p x) (all_without P p xs all.1)
  where
    by : (b : Bool) → AllByRecursion P (without_first p xs) → AllByRecursion P (if b then xs else x ∷ without_first p xs)
    by true rest = all.1
    by false rest = (all.0, rest)

-- the classes that are taken, and behind them some of those that were left
pub record IsSettledBehind (P : ClassOf Text → Type 0) (taken settled_classes : List (ClassOf Text)) : Type 0 where
  pub more : List (ClassOf Text)
  pub is : settled_classes ≡ taken ++ more
  pub all : AllByRecursion P more

pub settles_behind : (P : ClassOf Text → Type 0) (k : ℕ) (taken left : List (ClassOf Text)) → AllByRecursion P left → IsSettledBehind P taken (settle_behind text_eq k taken left)
settles_behind P zero taken left all = record { more = []; is = sym (append-nil taken); all = tt }
settles_behind P (suc k) taken left all = by (find (can_follow text_eq taken) left) (find-all P (can_follow text_eq taken) left all) (λ c. settles_behind P k (taken ++ c ∷ []) (without_first (can_follow text_eq taken) left) (all_without P (can_follow text_eq taken) left all))
  where
    by : (o : Option (ClassOf Text)) → OptionNames P o → ((c : ClassOf Text) → IsSettledBehind P (taken ++ c ∷ []) (settle_behind text_eq k (taken ++ c ∷ []) (without_first (can_follow text_eq taken) left)))
        → IsSettledBehind P taken (option_map_or (λ c. settle_behind text_eq k (taken ++ c ∷ []) (without_first (can_follow text_eq taken) left)) o taken)
    by None h rest = record { more = []; is = sym (append-nil taken); all = tt }
    by (Some c) h rest = let r = rest c in record { more = c ∷ r.more; is = r.is ∙ append_assoc taken (c ∷ []) r.more; all = (h, r.all) }

-- a fact of each class in order
all_settled : (P : ClassOf Text → Type 0) (cs : List (ClassOf Text)) → AllByRecursion P cs → AllByRecursion P (settled text_eq cs)
all_settled P cs all = let r = settles_behind P (length cs) [] cs all in subst (AllByRecursion P) (sym r.is) r.all

-- of classes one of which is changed
pub all_changed : (P : ClassOf Text → Type 0) (n : Text) (f : ClassOf Text → ClassOf Text) (cs : List (ClassOf Text)) → ((c : ClassOf Text) → P c → P (f c)) → AllByRecursion P cs → AllByRecursion P (changed_class text_eq n f cs)
all_changed P n f [] keeps all = tt
all_changed P n f (c ∷ cs) keeps all = (by (text_eq n c.name), all_changed P n f cs keeps all.1)
  where
    by : (b : Bool) → P (if b then f c else c)
    by true = keeps c all.0
    by false = all.0

-- of classes one of which is defined, with a place or in order
all_with_definition : (P : ClassOf Text → Type 0) (kernel : Bool) (d : DefinitionOf Text) (cs : List (ClassOf Text)) → ((c : ClassOf Text) → P c → P (class_again d c)) → P (new_class kernel d) → AllByRecursion P cs → AllByRecursion P (with_definition text_eq kernel d cs)
all_with_definition P kernel d cs again new all = by (has_class text_eq cs d.name)
  where
    by : (b : Bool) → AllByRecursion P (if b then changed_class text_eq d.name (class_again d) cs else cs ++ new_class kernel d ∷ [])
    by true = all_changed P d.name (class_again d) cs again all
    by false = all-end P cs (new_class kernel d) all new

all_defined : (P : ClassOf Text → Type 0) (kernel : Bool) (d : DefinitionOf Text) (cs : List (ClassOf Text)) → ((c : ClassOf Text) → P c → P (class_again d c)) → P (new_class kernel d) → AllByRecursion P cs → AllByRecursion P (defined text_eq kernel d cs)
all_defined P kernel d cs again new all = by (has_class text_eq cs d.name)
  where
    with_it : AllByRecursion P (with_definition text_eq kernel d cs)
    with_it = all_with_definition P kernel d cs again new all

    by : (b : Bool) → AllByRecursion P (if b then settled text_eq (with_definition text_eq kernel d cs) else with_definition text_eq kernel d cs)
    by true = all_settled P (with_definition text_eq kernel d cs) with_it
    by false = with_it

-- of methods one of which is put in
pub all_with_method : (P : EntryOf Text → Type 0) (kernel : Bool) (r : RunOf Text) (source : Text) (m : MethodOf Text) (ms : List (EntryOf Text)) → P (entry_in kernel r source m) → AllByRecursion P ms → AllByRecursion P (with_method text_eq kernel r source m ms)
all_with_method P kernel r source m ms new all = by (has_method text_eq ms r.class r.meta m.selector)
  where
    by : (b : Bool) → AllByRecursion P (if b then map (λ e. if is_method text_eq r.class r.meta m.selector e then entry_in kernel r source m else e) ms else ms ++ entry_in kernel r source m ∷ [])
    by true = All-replaced P (is_method text_eq r.class r.meta m.selector) (entry_in kernel r source m) ms all new
    by false = all-end P ms (entry_in kernel r source m) all new

-- an image of the kernel alone
pub record IsMarked (i : ImageOf Text) : Type 0 where
  pub classes : AllByRecursion (λ c. c.kernel ≡ true) i.classes
  pub sides : AllByRecursion (λ c. c.class_side ≡ []) i.classes
  pub methods : AllByRecursion (λ m. m.kernel ≡ true) i.methods

-- a class that is there is one of the kernel
is_of_kernel : (cs : List (ClassOf Text)) (n : Text) → AllByRecursion (λ c. c.kernel ≡ true) cs → has_class text_eq cs n ≡ true → is_kernel_class text_eq cs n ≡ true
is_of_kernel cs n all there = by (class_named text_eq cs n) (find-all (λ c. c.kernel ≡ true) (λ c. text_eq n c.name) cs all) there
  where
    by : (o : Option (ClassOf Text)) → OptionNames (λ c. c.kernel ≡ true) o → is_some o ≡ true → option_map_or (λ (c : ClassOf Text). c.kernel) o false ≡ true
    by None h k = absurd (true≢false (sym k))
    by (Some c) h k = h

not_false : (b : Bool) → not b ≡ false → b ≡ true
not_false true h = refl
not_false false h = absurd (true≢false h)

-- the names are none where they would be those of a class of the kernel
pub no_names : (is : Bool) (names : List Text) → is ≡ true → (is && not (length names == 0)) ≡ false → names ≡ []
no_names true names e h = none_in names (not_false (length names == 0) h)
no_names false names e h = absurd (true≢false (sym e))

-- a change keeps it
marked_changed : (c : ChangeOf Text) (i j : ImageOf Text) → changed text_eq true c i ≡ Ok j → IsMarked i → IsMarked j
marked_changed (Define d) i j e h =
    subst IsMarked (allowed (definition_refusals text_eq i.classes d (with_definition text_eq true d i.classes)) (record i { classes = defined text_eq true d i.classes }) j e).same
    (record {
      classes = all_defined (λ c. c.kernel ≡ true) true d i.classes (λ c k. k) refl h.classes;
      sides = all_defined (λ c. c.class_side ≡ []) true d i.classes (λ c k. k) refl h.sides;
      methods = h.methods;
    })
marked_changed (DefineAt d k) i j e h =
    subst IsMarked (allowed (definition_refusals text_eq i.classes d (with_definition text_eq true d i.classes)) (record i { classes = with_definition text_eq true d i.classes }) j e).same
    (record {
      classes = all_with_definition (λ c. c.kernel ≡ true) true d i.classes (λ c k. k) refl h.classes;
      sides = all_with_definition (λ c. c.class_side ≡ []) true d i.classes (λ c k. k) refl h.sides;
      methods = h.methods;
    })
marked_changed (Comment n t) i j e h =
    subst IsMarked (allowed (comment_refusals text_eq i.classes n) (record i { classes = with_comment text_eq n t i.classes }) j e).same
    (record {
      classes = all_changed (λ c. c.kernel ≡ true) n (λ (c : ClassOf Text). record c { comment = t }) i.classes (λ c k. k) h.classes;
      sides = all_changed (λ c. c.class_side ≡ []) n (λ (c : ClassOf Text). record c { comment = t }) i.classes (λ c k. k) h.sides;
      methods = h.methods;
    })
marked_changed (SetClassSide n names) i j e h =
    let a = allowed (class_side_refusals text_eq i.classes n names (with_class_side text_eq n names i.classes)) (record i { classes = with_class_side text_eq n names i.classes }) j e in
    let there = not_false (has_class text_eq i.classes n) a.none.0 in
    let none = no_names (is_kernel_class text_eq i.classes n) names (is_of_kernel i.classes n h.classes there) a.none.1.0 in
    subst IsMarked a.same
    (record {
      classes = all_changed (λ c. c.kernel ≡ true) n (λ (c : ClassOf Text). record c { class_side = names }) i.classes (λ c k. k) h.classes;
      sides = all_changed (λ c. c.class_side ≡ []) n (λ (c : ClassOf Text). record c { class_side = names }) i.classes (λ c k. none) h.sides;
      methods = h.methods;
    })
marked_changed (RemoveMethod c meta s) i j e h =
    subst IsMarked (allowed (removal_refusals text_eq i c meta s) (without_method text_eq c meta s i) j e).same
    (record { classes = h.classes; sides = h.sides; methods = All-filter (λ m. m.kernel ≡ true) (λ m. not (is_method text_eq c meta s m)) i.methods h.methods })
marked_changed (RemoveClass n) i j e h =
    subst IsMarked (allowed (class_removal_refusals text_eq i.classes n) (without_class text_eq n i) j e).same
    (record {
      classes = All-filter (λ c. c.kernel ≡ true) (λ (c : ClassOf Text). not (text_eq n c.name)) i.classes h.classes;
      sides = All-filter (λ c. c.class_side ≡ []) (λ (c : ClassOf Text). not (text_eq n c.name)) i.classes h.sides;
      methods = All-filter (λ m. m.kernel ≡ true) (λ m. not (is_of_class text_eq n m)) i.methods h.methods;
    })

-- so does a method that is put in
marked_added : (r : RunOf Text) (source : Text) (m : MethodOf Text) (i j : ImageOf Text) → method_added text_eq true r source m i ≡ Ok j → IsMarked i → IsMarked j
marked_added r source m i j e h =
    subst IsMarked (allowed (method_refusals text_eq i.methods r m.selector) (record i { methods = with_method text_eq true r source m i.methods }) j e).same
    (record { classes = h.classes; sides = h.sides; methods = all_with_method (λ e. e.kernel ≡ true) true r source m i.methods refl h.methods })

-- so do methods and classes that go to the places that are stated for them
all_put : (P : ClassOf Text → Type 0) (i : ImageOf Text) (stated : PlacesOf Text) → AllByRecursion P i.classes → AllByRecursion P (placed text_eq stated i).classes
all_put P i stated all =
    let put = put_again_behind (λ (c : ClassOf Text). c.kernel) (class_place text_eq stated.classes) i.classes in
    all_settled P put (All-reordered P i.classes put (put_again_behind_same (λ (c : ClassOf Text). c.kernel) (class_place text_eq stated.classes) i.classes) all)

marked_placed : (i : ImageOf Text) (stated : PlacesOf Text) → IsMarked i → IsMarked (placed text_eq stated i)
marked_placed i stated h = record {
  classes = all_put (λ c. c.kernel ≡ true) i stated h.classes;
  sides = all_put (λ c. c.class_side ≡ []) i stated h.sides;
  methods = All-reordered (λ m. m.kernel ≡ true) i.methods (placed text_eq stated i).methods (put_again_behind_same (λ (m : EntryOf Text). m.kernel) (method_place text_eq stated.methods) i.methods) h.methods;
}

marked_keeps : (d : Dialect) → IsKeptByChunks d true IsMarked
marked_keeps d = record {
  changes = λ b c i j says e h. marked_changed c i j e h;
  adds = λ r source m i j spells stands there e h. marked_added r source m i j e h;
  counts = λ i x at_head chunk h. record { classes = h.classes; sides = h.sides; methods = h.methods };
  replaces = λ i numeral x chunk h. record { classes = h.classes; sides = h.sides; methods = h.methods };
  places = marked_placed;
}

-- the image of the kernel
pub kernel_marked : (d : Dialect) (prelude : Text) (kernel : ImageOf Text) → IsKernelOf d prelude kernel → IsMarked kernel
kernel_marked d prelude kernel k = kept_kernel d IsMarked (marked_keeps d) prelude kernel k (record { classes = tt; sides = tt; methods = tt })
