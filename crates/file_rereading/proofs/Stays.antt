-- The classes and the methods of the kernel stay as they are, before those of the user.
use Rattle.std.proofs.Common.{◌≡◌, ℕ, zero, suc, Bool, true, false, not, List, [], ◌∷◌, ◌++◌, length, map, filter, Some, Ok, slice_get, refl, ap, sym, subst, ◌∙◌, append_assoc, append-nil, length-append, true≢false}
use Rattle.std.specs.Prelude.{◌==◌, ◌&&◌, if◌then◌else◌}
use Rattle.std.specs.List.{AllByRecursion}
use Rattle.std.specs.Option.{option_map_or}
use Rattle.std.proofs.lemmas.List.{map-append}
use Rattle.std.proofs.lemmas.List.Elements.{filter-append}
use Rattle.rb_base.specs.Names.{text_eq}
use Rattle.token_model.specs.declared.kind.Dialect.{Dialect}
use Rattle.tree_model.specs.Tree.{MethodOf}
use Rattle.image_model.specs.Image.{ClassOf, EntryOf, ImageOf}
use Rattle.image_model.specs.Lookup.{is_method}
use Rattle.image_model.specs.Valid.{class_names, SuperclassesStandBefore, HasClass}
use Rattle.image_model.proofs.Ends.{all-end, contains-place}
use Rattle.image_model.proofs.Lists.{all-implies}
use Rattle.file_model.specs.Changes.{DefinitionOf, ChangeOf, Define, DefineAt, Comment, SetClassSide, RemoveMethod, RemoveClass, RunOf}
use Rattle.file_model.specs.Hierarchy.{has_class, is_kernel_class, settle_behind, settled}
use Rattle.file_model.specs.Refusals.{has_method, is_kernel_method, definition_refusals, comment_refusals, class_side_refusals, removal_refusals, class_removal_refusals, method_refusals}
use Rattle.file_model.specs.Applied.{new_class, class_again, changed_class, with_definition, defined, with_class_side, with_comment, is_of_class, without_class, without_method, changed, entry_in, with_method, method_added}
use Rattle.file_model.specs.Filing.{Text}
use Rattle.file_model.specs.Written.{user_classes, user_methods}
use Rattle.file_model.specs.Reading.{IsKernelOf, IsImageOf}
use Rattle.file_model.proofs.OneImage.{one_kernel}
use Rattle.rb_base.proofs.NamesLemmas.{text_eq-refl}
use Rattle.file_laws.proofs.Moves.{text_equal}
use Rattle.file_laws.proofs.Settled.{turn_of, in_turn}
use Rattle.file_laws.proofs.Sound.{All-filter, All-replaced}
use Rattle.file_rereading.specs.Rereading.{KernelFirst}
use Rattle.file_rereading.proofs.Fresh.{unchanged, filter_all, filter_none, none_marked}
use Rattle.file_model.specs.Places.{PlacesOf, put_again, put_again_behind, class_place, method_place, placed}
use Rattle.file_laws.proofs.PutAgain.{put_again_of_user}
use Rattle.file_laws.proofs.Refused.{allowed}
use Rattle.file_laws.proofs.Taking.{IsKeptByChunks, kept_image}
use Rattle.file_rereading.proofs.Marked.{settles_behind, all_changed, no_names, IsMarked, kernel_marked}

-- classes behind those of the kernel, none of which is one of the kernel
record AreBehind (front cs : List (ClassOf Text)) : Type 0 where
  users : List (ClassOf Text)
  split : cs ≡ front ++ users
  user : AllByRecursion (λ c. c.kernel ≡ false) users

-- so it is with methods
record AreBehindMethods (front ms : List (EntryOf Text)) : Type 0 where
  users : List (EntryOf Text)
  split : ms ≡ front ++ users
  user : AllByRecursion (λ m. m.kernel ≡ false) users

-- the test of one of two
by_test : {X : Type 0} (b : Bool) (x y : X) → b ≡ false → (if b then x else y) ≡ y
by_test true x y e = absurd (true≢false e)
by_test false x y e = refl

-- no class has another name than it has
unlike_name : (cs : List (ClassOf Text)) (n m : Text) (j : ℕ) → AllByRecursion (λ c. text_eq n c.name ≡ false) cs → slice_get (class_names cs) j ≡ Some m → text_eq n m ≡ false
unlike_name [] n m j all e = absurd (cc)
unlike_name (c ∷ cs) n m zero all e = let same : c.name ≡ m = cc in ap (text_eq n) (sym same) ∙ all.0
unlike_name (c ∷ cs) n m (suc j) all e = unlike_name cs n m j all.1 e

-- the kernel: what is marked as such, in order, with the class of each method
record IsWhole (kernel : ImageOf Text) : Type 0 where
  marked : IsMarked kernel
  before : SuperclassesStandBefore kernel.classes
  there : AllByRecursion (HasClass kernel.classes) kernel.methods

module _ (kernel : ImageOf Text) (k : IsWhole kernel) where
  -- the kernel's part of an image stays before the user's
  record Stays (i : ImageOf Text) : Type 0 where
    classes : AreBehind kernel.classes i.classes
    methods : AreBehindMethods kernel.methods i.methods

  -- no class of the kernel has a name whose class is none of the kernel
  unlike : (cs : List (ClassOf Text)) (n : Text) → AreBehind kernel.classes cs → is_kernel_class text_eq cs n ≡ false → AllByRecursion (λ c. text_eq n c.name ≡ false) kernel.classes
  unlike cs n b e =
      none_marked (λ (c : ClassOf Text). c.kernel) (λ (c : ClassOf Text). text_eq n c.name) kernel.classes b.users k.marked.classes
      (ap (λ (xs : List (ClassOf Text)). is_kernel_class text_eq xs n) (sym b.split) ∙ e)

  -- no method of the kernel has a signature whose method is none of the kernel
  unlike_methods : (ms : List (EntryOf Text)) (c : Text) (meta : Bool) (s : Text) → AreBehindMethods kernel.methods ms → is_kernel_method text_eq ms c meta s ≡ false → AllByRecursion (λ m. is_method text_eq c meta s m ≡ false) kernel.methods
  unlike_methods ms c meta s b e =
      none_marked (λ (m : EntryOf Text). m.kernel) (is_method text_eq c meta s) kernel.methods b.users k.marked.methods
      (ap (λ (xs : List (EntryOf Text)). is_kernel_method text_eq xs c meta s) (sym b.split) ∙ e)

  -- a class that is changed is none of the kernel, or is not changed
  behind_changed : (cs : List (ClassOf Text)) (n : Text) (f : ClassOf Text → ClassOf Text) → ((c : ClassOf Text) → (f c).kernel ≡ c.kernel) → AllByRecursion (λ c. (if text_eq n c.name then f c else c) ≡ c) kernel.classes → AreBehind kernel.classes cs → AreBehind kernel.classes (changed_class text_eq n f cs)
  behind_changed cs n f keeps same b = record {
    users = changed_class text_eq n f b.users;
    split =
        ap (changed_class text_eq n f) b.split ∙ map-append (λ (c : ClassOf Text). if text_eq n c.name then f c else c) kernel.classes b.users
        ∙ ap (λ (cs : List (ClassOf Text)). cs ++ changed_class text_eq n f b.users) (unchanged (λ (c : ClassOf Text). if text_eq n c.name then f c else c) kernel.classes same);
    user = all_changed (λ c. c.kernel ≡ false) n f b.users (λ c e. keeps c ∙ e) b.user;
  }

  -- one that none of the kernel has the name of
  none_changed : (n : Text) (f : ClassOf Text → ClassOf Text) → AllByRecursion (λ c. text_eq n c.name ≡ false) kernel.classes → AllByRecursion (λ c. (if text_eq n c.name then f c else c) ≡ c) kernel.classes
  none_changed n f all = all-implies (λ c. text_eq n c.name ≡ false) (λ c. (if text_eq n c.name then f c else c) ≡ c) (λ c e. by_test (text_eq n c.name) (f c) c e) kernel.classes all

  -- in order the kernel stands first too
  behind_settled : (cs : List (ClassOf Text)) → AreBehind kernel.classes cs → AreBehind kernel.classes (settled text_eq cs)
  behind_settled cs b =
      let front = kernel.classes in
      let turn = turn_of text_eq text_eq-refl text_equal [] front k.before in
      let s = settles_behind (λ c. c.kernel ≡ false) (length b.users) front b.users b.user in
      record {
        users = s.more;
        split =
            ap (settled text_eq) b.split ∙ ap (λ (n : ℕ). settle_behind text_eq n [] (front ++ b.users)) (length-append front b.users)
            ∙ in_turn text_eq text_eq-refl text_equal (length b.users) [] front b.users turn ∙ s.is;
        user = s.all;
      }

  -- a class that is defined, with a place or in order
  behind_with : (cs : List (ClassOf Text)) (d : DefinitionOf Text) → AllByRecursion (λ c. text_eq d.name c.name ≡ false) kernel.classes → AreBehind kernel.classes cs → AreBehind kernel.classes (with_definition text_eq false d cs)
  behind_with cs d all b = by (has_class text_eq cs d.name)
    where
      by : (t : Bool) → AreBehind kernel.classes (if t then changed_class text_eq d.name (class_again d) cs else cs ++ new_class false d ∷ [])
      by true = behind_changed cs d.name (class_again d) (λ c. refl) (none_changed d.name (class_again d) all) b
      by false = record {
        users = b.users ++ new_class false d ∷ [];
        split = ap (λ (xs : List (ClassOf Text)). xs ++ new_class false d ∷ []) b.split ∙ append_assoc kernel.classes b.users (new_class false d ∷ []);
        user = all-end (λ c. c.kernel ≡ false) b.users (new_class false d) b.user refl;
      }

  behind_defined : (cs : List (ClassOf Text)) (d : DefinitionOf Text) → AllByRecursion (λ c. text_eq d.name c.name ≡ false) kernel.classes → AreBehind kernel.classes cs → AreBehind kernel.classes (defined text_eq false d cs)
  behind_defined cs d all b = by (has_class text_eq cs d.name)
    where
      with_it : AreBehind kernel.classes (with_definition text_eq false d cs)
      with_it = behind_with cs d all b

      by : (t : Bool) → AreBehind kernel.classes (if t then settled text_eq (with_definition text_eq false d cs) else with_definition text_eq false d cs)
      by true = behind_settled (with_definition text_eq false d cs) with_it
      by false = with_it

  -- class-instance variables of a class of the kernel are none, as they were
  side_changed : (is : Bool) (n : Text) (names : List Text) → (is && not (length names == 0)) ≡ false → (is ≡ false → AllByRecursion (λ c. text_eq n c.name ≡ false) kernel.classes) → AllByRecursion (λ c. (if text_eq n c.name then record c { class_side = names } else c) ≡ c) kernel.classes
  side_changed false n names e all = none_changed n (λ (c : ClassOf Text). record c { class_side = names }) (all refl)
  side_changed true n names e all = all-implies (λ c. c.class_side ≡ []) (λ c. (if text_eq n c.name then record c { class_side = names } else c) ≡ c) same kernel.classes k.marked.sides
    where
      none : names ≡ []
      none = no_names true names refl e

      same : (c : ClassOf Text) → c.class_side ≡ [] → (if text_eq n c.name then record c { class_side = names } else c) ≡ c
      same c h = by (text_eq n c.name)
        where
          by : (b : Bool) → (if b then record c { class_side = names } else c) ≡ c
          by true = let side : names ≡ c.class_side = none ∙ sym h in λ j. record c { class_side = side j }
          by false = refl

  -- classes without one of the user
  behind_without : (cs : List (ClassOf Text)) (n : Text) → AllByRecursion (λ c. text_eq n c.name ≡ false) kernel.classes → AreBehind kernel.classes cs → AreBehind kernel.classes (filter (λ (c : ClassOf Text). not (text_eq n c.name)) cs)
  behind_without cs n all b =
      let p : ClassOf Text → Bool = λ c. not (text_eq n c.name) in
      record {
        users = filter p b.users;
        split =
            ap (filter p) b.split ∙ filter-append p kernel.classes b.users
            ∙ ap (λ (xs : List (ClassOf Text)). xs ++ filter p b.users) (filter_all p kernel.classes (all-implies (λ c. text_eq n c.name ≡ false) (λ c. p c ≡ true) (λ c e. ap not e) kernel.classes all));
        user = All-filter (λ c. c.kernel ≡ false) p b.users b.user;
      }

  -- methods without some, none of which is one of the kernel
  behind_without_methods : (ms : List (EntryOf Text)) (p : EntryOf Text → Bool) → AllByRecursion (λ m. p m ≡ false) kernel.methods → AreBehindMethods kernel.methods ms → AreBehindMethods kernel.methods (filter (λ m. not (p m)) ms)
  behind_without_methods ms p all b = record {
    users = filter (λ m. not (p m)) b.users;
    split =
        ap (filter (λ m. not (p m))) b.split ∙ filter-append (λ m. not (p m)) kernel.methods b.users
        ∙ ap (λ (xs : List (EntryOf Text)). xs ++ filter (λ m. not (p m)) b.users) (filter_all (λ m. not (p m)) kernel.methods (all-implies (λ m. p m ≡ false) (λ m. not (p m) ≡ true) (λ m e. ap not e) kernel.methods all));
    user = All-filter (λ m. m.kernel ≡ false) (λ m. not (p m)) b.users b.user;
  }

  -- no method of the kernel is one of a class of the user
  none_of_class : (n : Text) → AllByRecursion (λ c. text_eq n c.name ≡ false) kernel.classes → AllByRecursion (λ m. is_of_class text_eq n m ≡ false) kernel.methods
  none_of_class n all = all-implies (HasClass kernel.classes) (λ m. is_of_class text_eq n m ≡ false) other kernel.methods k.there
    where
      other : (m : EntryOf Text) → HasClass kernel.classes m → is_of_class text_eq n m ≡ false
      other m has =
          let place = contains-place (class_names kernel.classes) has.0 has.2 in
          ap (λ o. option_map_or (text_eq n) o false) has.1 ∙ unlike_name kernel.classes n has.0 place.0 all place.1

  -- a change keeps it
  stays_changed : (c : ChangeOf Text) (i j : ImageOf Text) → changed text_eq false c i ≡ Ok j → Stays i → Stays j
  stays_changed (Define d) i j e h =
      let a = allowed (definition_refusals text_eq i.classes d (with_definition text_eq false d i.classes)) (record i { classes = defined text_eq false d i.classes }) j e in
      subst Stays a.same (record { classes = behind_defined i.classes d (unlike i.classes d.name h.classes a.none.0) h.classes; methods = h.methods })
  stays_changed (DefineAt d place) i j e h =
      let a = allowed (definition_refusals text_eq i.classes d (with_definition text_eq false d i.classes)) (record i { classes = with_definition text_eq false d i.classes }) j e in
      subst Stays a.same (record { classes = behind_with i.classes d (unlike i.classes d.name h.classes a.none.0) h.classes; methods = h.methods })
  stays_changed (Comment n t) i j e h =
      let a = allowed (comment_refusals text_eq i.classes n) (record i { classes = with_comment text_eq n t i.classes }) j e in
      let f : ClassOf Text → ClassOf Text = λ c. record c { comment = t } in
      subst Stays a.same (record { classes = behind_changed i.classes n f (λ c. refl) (none_changed n f (unlike i.classes n h.classes a.none.1.0)) h.classes; methods = h.methods })
  stays_changed (SetClassSide n names) i j e h =
      let a = allowed (class_side_refusals text_eq i.classes n names (with_class_side text_eq n names i.classes)) (record i { classes = with_class_side text_eq n names i.classes }) j e in
      let f : ClassOf Text → ClassOf Text = λ c. record c { class_side = names } in
      subst Stays a.same (record { classes = behind_changed i.classes n f (λ c. refl) (side_changed (is_kernel_class text_eq i.classes n) n names a.none.1.0 (unlike i.classes n h.classes)) h.classes; methods = h.methods })
  stays_changed (RemoveMethod c meta s) i j e h =
      let a = allowed (removal_refusals text_eq i c meta s) (without_method text_eq c meta s i) j e in
      subst Stays a.same (record { classes = h.classes; methods = behind_without_methods i.methods (is_method text_eq c meta s) (unlike_methods i.methods c meta s h.methods a.none.1.0) h.methods })
  stays_changed (RemoveClass n) i j e h =
      let a = allowed (class_removal_refusals text_eq i.classes n) (without_class text_eq n i) j e in
      let all = unlike i.classes n h.classes a.none.1.0 in
      subst Stays a.same (record { classes = behind_without i.classes n all h.classes; methods = behind_without_methods i.methods (is_of_class text_eq n) (none_of_class n all) h.methods })

  -- methods with one that is put in, in place of none of the kernel
  behind_with_method : (r : RunOf Text) (source : Text) (m : MethodOf Text) (ms : List (EntryOf Text)) → AllByRecursion (λ x. is_method text_eq r.class r.meta m.selector x ≡ false) kernel.methods → AreBehindMethods kernel.methods ms → AreBehindMethods kernel.methods (with_method text_eq false r source m ms)
  behind_with_method r source m ms all b = by (has_method text_eq ms r.class r.meta m.selector)
    where
      by : (t : Bool) → AreBehindMethods kernel.methods (if t then map (λ e. if is_method text_eq r.class r.meta m.selector e then entry_in false r source m else e) ms else ms ++ entry_in false r source m ∷ [])
      by true =
          let new = entry_in false r source m in
          let test = is_method text_eq r.class r.meta m.selector in
          let put : EntryOf Text → EntryOf Text = λ e. if test e then new else e in
          record {
            users = map put b.users;
            split =
                ap (map put) b.split ∙ map-append put kernel.methods b.users
                ∙ ap (λ (xs : List (EntryOf Text)). xs ++ map put b.users) (unchanged put kernel.methods (all-implies (λ x. test x ≡ false) (λ x. put x ≡ x) (λ x q. by_test (test x) new x q) kernel.methods all));
            user = All-replaced (λ x. x.kernel ≡ false) test new b.users b.user refl;
          }
      by false =
          let new = entry_in false r source m in
          record {
            users = b.users ++ new ∷ [];
            split = ap (λ (xs : List (EntryOf Text)). xs ++ new ∷ []) b.split ∙ append_assoc kernel.methods b.users (new ∷ []);
            user = all-end (λ x. x.kernel ≡ false) b.users new b.user refl;
          }

  -- so does a method that is put in
  stays_added : (r : RunOf Text) (source : Text) (m : MethodOf Text) (i j : ImageOf Text) → method_added text_eq false r source m i ≡ Ok j → Stays i → Stays j
  stays_added r source m i j e h =
      let a = allowed (method_refusals text_eq i.methods r m.selector) (record i { methods = with_method text_eq false r source m i.methods }) j e in
      subst Stays a.same (record { classes = h.classes; methods = behind_with_method r source m i.methods (unlike_methods i.methods r.class r.meta m.selector h.methods a.none.0) h.methods })

  -- the items of the kernel, where they stand before those of the user
  kernel_part : {X : Type 0} (is_kernel : X → Bool) (front users all : List X) → all ≡ front ++ users → AllByRecursion (λ x. is_kernel x ≡ true) front → AllByRecursion (λ x. is_kernel x ≡ false) users → filter is_kernel all ≡ front
  kernel_part is_kernel front users all split mine others =
      ap (filter is_kernel) split ∙ filter-append is_kernel front users
      ∙ (λ j. filter_all is_kernel front mine j ++ filter_none is_kernel users others j) ∙ append-nil front

  -- so do methods and classes that go to the places that are stated for them
  stays_placed : (i : ImageOf Text) (stated : PlacesOf Text) → Stays i → Stays (placed text_eq stated i)
  stays_placed i stated h = record {
    classes = behind_settled (put_again_behind (λ (c : ClassOf Text). c.kernel) (class_place text_eq stated.classes) i.classes) (record {
      users = put_again (class_place text_eq stated.classes) (filter (λ (c : ClassOf Text). not c.kernel) i.classes);
      split = ap (λ (cs : List (ClassOf Text)). cs ++ put_again (class_place text_eq stated.classes) (filter (λ (c : ClassOf Text). not c.kernel) i.classes)) (kernel_part (λ (c : ClassOf Text). c.kernel) kernel.classes h.classes.users i.classes h.classes.split k.marked.classes h.classes.user);
      user = put_again_of_user (λ (c : ClassOf Text). c.kernel) (class_place text_eq stated.classes) i.classes;
    });
    methods = record {
      users = put_again (method_place text_eq stated.methods) (filter (λ (m : EntryOf Text). not m.kernel) i.methods);
      split = ap (λ (ms : List (EntryOf Text)). ms ++ put_again (method_place text_eq stated.methods) (filter (λ (m : EntryOf Text). not m.kernel) i.methods)) (kernel_part (λ (m : EntryOf Text). m.kernel) kernel.methods h.methods.users i.methods h.methods.split k.marked.methods h.methods.user);
      user = put_again_of_user (λ (m : EntryOf Text). m.kernel) (method_place text_eq stated.methods) i.methods;
    };
  }

  stays_keeps : (d : Dialect) → IsKeptByChunks d false Stays
  stays_keeps d = record {
    changes = λ b c i j says e h. stays_changed c i j e h;
    adds = λ r source m i j spells stands there e h. stays_added r source m i j e h;
    counts = λ i x at_head chunk h. record { classes = h.classes; methods = h.methods };
    replaces = λ i numeral x chunk h. record { classes = h.classes; methods = h.methods };
    places = stays_placed;
  }

  -- what stays so has the kernel first
  kernel_first : (i : ImageOf Text) → Stays i → KernelFirst kernel i
  kernel_first i h =
      let p : ClassOf Text → Bool = λ c. not c.kernel in
      let q : EntryOf Text → Bool = λ m. not m.kernel in
      let cs : user_classes i ≡ h.classes.users =
      ap (filter p) h.classes.split ∙ filter-append p kernel.classes h.classes.users
      ∙ (λ j. filter_none p kernel.classes (all-implies (λ c. c.kernel ≡ true) (λ c. p c ≡ false) (λ c e. ap not e) kernel.classes k.marked.classes) j
      ++ filter_all p h.classes.users (all-implies (λ c. c.kernel ≡ false) (λ c. p c ≡ true) (λ c e. ap not e) h.classes.users h.classes.user) j) in
      let ms : user_methods i ≡ h.methods.users =
      ap (filter q) h.methods.split ∙ filter-append q kernel.methods h.methods.users
      ∙ (λ j. filter_none q kernel.methods (all-implies (λ m. m.kernel ≡ true) (λ m. q m ≡ false) (λ m e. ap not e) kernel.methods k.marked.methods) j
      ++ filter_all q h.methods.users (all-implies (λ m. m.kernel ≡ false) (λ m. q m ≡ true) (λ m e. ap not e) h.methods.users h.methods.user) j) in
      record {
        classes = h.classes.split ∙ ap (λ (xs : List (ClassOf Text)). kernel.classes ++ xs) (sym cs);
        methods = h.methods.split ∙ ap (λ (xs : List (EntryOf Text)). kernel.methods ++ xs) (sym ms);
      }

-- the image of a file-out
pub first_in_image : (d : Dialect) (prelude text : Text) (kernel i : ImageOf Text) → IsKernelOf d prelude kernel → SuperclassesStandBefore kernel.classes → AllByRecursion (HasClass kernel.classes) kernel.methods → IsImageOf d prelude text i → KernelFirst kernel i
first_in_image d prelude text kernel i is before there r =
    let k : IsWhole kernel = record { marked = kernel_marked d prelude kernel is; before = before; there = there } in
    let same : kernel ≡ r.kernel = one_kernel d prelude kernel r.kernel is r.is_kernel in
    let start : Stays kernel k kernel = record { classes = record { users = []; split = sym (append-nil kernel.classes); user = tt }; methods = record { users = []; split = sym (append-nil kernel.methods); user = tt } } in
    kernel_first kernel k i (kept_image d (Stays kernel k) (stays_keeps kernel k d) prelude text i r (subst (Stays kernel k) same start))
