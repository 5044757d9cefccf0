-- The classes and methods of the kernel stay before those of the user.
use Rattle.std.proofs.Common.{◌≡◌, ◌⊎◌, inl, inr, Bool, true, false, not, cond, List, [], ◌∷◌, ◌++◌, map, Option, Some, None, refl, sym, ap, subst, ◌∙◌}
use Rattle.std.specs.Prelude.{◌-◌, if◌then◌else◌, filter, remove, option_and_then, option_map, unwrap_or}
use Rattle.std.specs.List.{flat_map}
use Rattle.std.specs.Option.{option_map_or}
use Rattle.std.proofs.lemmas.Bool.{not-true}
use Rattle.rb_base.specs.Names.{text_eq}
use Rattle.scope_model.specs.Scope.{is_among}
use Rattle.tree_model.specs.Tree.{TreesOf, no_trees, more_trees, MethodOf}
use Rattle.tree_model.specs.Path.{append}
use Rattle.image_model.specs.Image.{ClassOf, EntryOf, ImageOf}
use Rattle.image_model.specs.Words.{text_words}
use Rattle.image_model.specs.Lookup.{is_method}
use Rattle.image_model.specs.Means.{VariableKind, of_instance, of_class_side, of_class, variables}
use Rattle.file_model.specs.Filing.{Text}
use Rattle.file_laws.specs.Fronts.{class_of_kernel, method_of_kernel}
use Rattle.file_rereading.specs.Rereading.{KernelFirst}
use Rattle.rename_model.specs.ClassRenamed.{canonical}
use Rattle.rename_model.specs.ClassRenamed as class_renaming
use Rattle.rename_model.specs.SelectorRenamed as selector_renaming
use Rattle.rename_model.specs.VariableRenamed.{with_variables}
use Rattle.rename_model.specs.VariableRenamed as variable_renaming
use Rattle.command_model.specs.ClassEffects.{new_class, put_before, put_under}
use Rattle.command_model.specs.Asked.{text_asked}
use Rattle.command_model.specs.Commands.{CommandOf, RenameClass, AddClass, RemoveClass, AddInstVar, RenameInstVar, RemoveInstVar, PushUpInstVar, PushDownInstVar, AddClassVar, RenameClassVar, RemoveClassVar, PushUpClassVar, PushDownClassVar, AddClassSideVar, RenameClassSideVar, RemoveClassSideVar, RenameSelector, AddMethod, RemoveMethod, PushUpMethod, PushDownMethod, AddParameter, RemoveParameter, RenameTemp, MovesNoCode}
use Rattle.command_model.specs.Plain.{literal_node}
use Rattle.command_model.specs.Parameters.{without_nth}
use Rattle.command_model.specs.Effects.{effect}
use Rattle.command_model.specs.Places.{users_method}
use Rattle.command_model.specs.Sequences.{with_tree}
use Rattle.command_model.specs.Temporaries.{temporary_renamed}
use Rattle.command_model.specs.Hierarchy.{superclass_name, is_child, is_method_of, receivers}
use Rattle.command_model.specs.MethodEffects.{new_method, of_class_named}
use Rattle.command_model.specs.VariableEffects.{with_last, without, with_changed, class_pushed_up, class_pushed_down, shared_moved}
use Rattle.command_model.specs.AllHold.{AllHold}
use Rattle.effect_laws.proofs.Items.{In, in_either, filter_in, map_in, flat_in}
use Rattle.effect_laws.proofs.Fronts.{put_in, filter-none, filter-all}
use Rattle.effect_laws.proofs.Sound.{IsSound}
use Rattle.effect_laws.proofs.Kernel.{IsWhole}
use Rattle.effect_laws.proofs.Moved.{with_kernel}
use Rattle.effect_laws.proofs.ClassesKept.{children}
use Rattle.effect_laws.proofs.ParametersKept.{passed_method, passed_kernel}
use Rattle.effect_laws.proofs.TreeReplaced.{replaced, mark_kept}

-- behind an item that fails all items fail
abbrev pub IsFront : {X : Type 0} → (X → Bool) → List X → Type 0
IsFront p [] = Unit {0}
IsFront {X} p (x ∷ xs) = (p x ≡ false → (y : X) → In xs y → p y ≡ false) × IsFront p xs

module _ {X : Type 0} (p : X → Bool) where
  front_whole : (xs : List X) → IsFront p xs → xs ≡ filter p xs ++ filter (λ x. not (p x)) xs
  front_whole [] f = refl
  front_whole (x ∷ xs) f = by (p x) refl (front_whole xs f.1)
    where
      by : (b : Bool) → p x ≡ b → xs ≡ filter p xs ++ filter (λ y. not (p y)) xs → x ∷ xs ≡ cond (p x) (x ∷ filter p xs) (filter p xs) ++ cond (not (p x)) (x ∷ filter (λ y. not (p y)) xs) (filter (λ y. not (p y)) xs)
      by true q rest =
          ap (λ zs. x ∷ zs) rest ∙ sym (ap (λ b. cond b (x ∷ filter p xs) (filter p xs) ++ cond (not b) (x ∷ filter (λ y. not (p y)) xs) (filter (λ y. not (p y)) xs)) q)
      by false q rest =
          ap (λ zs. x ∷ zs) (sym (filter-all (λ y. not (p y)) xs (λ y k. ap not (f.0 q y k))))
          ∙ sym (ap (λ zs. zs ++ (x ∷ filter (λ y. not (p y)) xs)) (filter-none p xs (f.0 q)))
          ∙ sym (ap (λ b. cond b (x ∷ filter p xs) (filter p xs) ++ cond (not b) (x ∷ filter (λ y. not (p y)) xs) (filter (λ y. not (p y)) xs)) q)

  pub front_both : (xs ys : List X) → IsFront p xs → IsFront p ys → ((x y : X) → In xs x → p x ≡ false → In ys y → p y ≡ false) → IsFront p (xs ++ ys)
  front_both [] ys f g h = g
  front_both (x ∷ xs) ys f g h = ((λ q y k. by y (in_either xs ys y k) q), front_both xs ys f.1 g (λ z y k. h z y (inr k)))
    where
      by : (y : X) → In xs y ⊎ In ys y → p x ≡ false → p y ≡ false
      by y (inl k) q = f.0 q y k
      by y (inr k) q = h x y (inl refl) q k

  all_front : (xs : List X) → ((x y : X) → In xs x → In xs y → p x ≡ p y) → IsFront p xs
  all_front [] h = tt
  all_front (x ∷ xs) h = ((λ q y k. sym (h x y (inl refl) (inr k)) ∙ q), all_front xs (λ y z k l. h y z (inr k) (inr l)))

  pub front_map : (f : X → X) (xs : List X) → ((x : X) → p (f x) ≡ p x) → IsFront p xs → IsFront p (map f xs)
  front_map f [] h g = tt
  front_map f (x ∷ xs) h g = ((λ q y k. (let r = map_in f xs y k in ap p (sym r.2) ∙ h r.0 ∙ g.0 (sym (h x) ∙ q) r.0 r.1)), front_map f xs h g.1)

  front_filter : (t : X → Bool) (xs : List X) → IsFront p xs → IsFront p (filter t xs)
  front_filter t [] g = tt
  front_filter t (x ∷ xs) g = by (t x) (front_filter t xs g.1)
    where
      by : (b : Bool) → IsFront p (filter t xs) → IsFront p (cond b (x ∷ filter t xs) (filter t xs))
      by true rest = ((λ q y k. g.0 q y (filter_in t xs y k).0), rest)
      by false rest = rest

  pub front_end : (xs : List X) (x : X) → p x ≡ false → IsFront p xs → IsFront p (xs ++ x ∷ [])
  front_end xs x h g = front_both xs (x ∷ []) g ((λ q y k. absurd k), tt) (λ z y k q l. by y l)
    where
      by : (y : X) → In (x ∷ []) y → p y ≡ false
      by y (inl e) = ap p (sym e) ∙ h
      by y (inr k) = absurd k

  front_flat : (f : X → List X) (xs : List X) → ((x y : X) → In (f x) y → p y ≡ p x) → IsFront p xs → IsFront p (flat_map f xs)
  front_flat f [] h g = tt
  front_flat f (x ∷ xs) h g =
      front_both (f x) (flat_map f xs) (all_front (f x) (λ y z k l. h x y k ∙ sym (h x z l))) (front_flat f xs h g.1)
      (λ z y k q l. (let r = flat_in f xs y l in h r.0 y r.2 ∙ g.0 (sym (h x z k) ∙ q) r.0 r.1))

  front_put : (passes : X → Bool) (x : X) (xs : List X) → p x ≡ false → ((y : X) → In xs y → passes y ≡ true → p y ≡ false) → IsFront p xs → IsFront p (put_before passes x xs)
  front_put passes x [] h u g = ((λ q y k. absurd k), tt)
  front_put passes x (y ∷ ys) h u g = by (passes y) refl (front_put passes x ys h (λ z k. u z (inr k)) g.1)
    where
      put_fails : (z : X) → (x ≡ z) ⊎ In ys z → p y ≡ false → p z ≡ false
      put_fails z (inl e) q = ap p (sym e) ∙ h
      put_fails z (inr k) q = g.0 q z k

      later : p y ≡ false → (z : X) → In (y ∷ ys) z → p z ≡ false
      later q z (inl e) = ap p (sym e) ∙ q
      later q z (inr k) = g.0 q z k

      by : (b : Bool) → passes y ≡ b → IsFront p (put_before passes x ys) → IsFront p (cond b (x ∷ y ∷ ys) (y ∷ put_before passes x ys))
      by true t rest = ((λ q z k. later (u y (inl refl) t) z k), g)
      by false t rest = ((λ q z k. put_fails z (put_in passes x ys z k) q), rest)

-- of classes and methods
pub record AreFronts (i : ImageOf Text) : Type 0 where
  pub classes : IsFront class_of_kernel i.classes
  pub methods : IsFront method_of_kernel i.methods

module _ (kernel i : ImageOf Text) (s : IsSound kernel i) where
  pub fronts_of : KernelFirst kernel i → AreFronts i
  fronts_of f = record {
    classes =
        subst (IsFront class_of_kernel) (sym f.classes)
        (front_both class_of_kernel kernel.classes (filter (λ (c : ClassOf Text). not c.kernel) i.classes) (all_front class_of_kernel kernel.classes (λ x y k l. s.classes.behind.of_kernel x k ∙ sym (s.classes.behind.of_kernel y l)))
        (all_front class_of_kernel (filter (λ (c : ClassOf Text). not c.kernel) i.classes) (λ x y k l. class_free x k ∙ sym (class_free y l))) (λ x y k q l. class_free y l));
    methods =
        subst (IsFront method_of_kernel) (sym f.methods)
        (front_both method_of_kernel kernel.methods (filter (λ (m : EntryOf Text). not m.kernel) i.methods) (all_front method_of_kernel kernel.methods (λ x y k l. s.methods.behind.of_kernel x k ∙ sym (s.methods.behind.of_kernel y l)))
        (all_front method_of_kernel (filter (λ (m : EntryOf Text). not m.kernel) i.methods) (λ x y k l. method_free x k ∙ sym (method_free y l))) (λ x y k q l. method_free y l));
  }
    where
      class_free : (x : ClassOf Text) → In (filter (λ (c : ClassOf Text). not c.kernel) i.classes) x → x.kernel ≡ false
      class_free x k = not-true x.kernel (filter_in (λ (c : ClassOf Text). not c.kernel) i.classes x k).1

      method_free : (x : EntryOf Text) → In (filter (λ (m : EntryOf Text). not m.kernel) i.methods) x → x.kernel ≡ false
      method_free x k = not-true x.kernel (filter_in (λ (m : EntryOf Text). not m.kernel) i.methods x k).1

  pub first_of : AreFronts i → KernelFirst kernel i
  first_of f = record {
    classes = front_whole class_of_kernel i.classes f.classes ∙ ap (λ (cs : List (ClassOf Text)). cs ++ filter (λ (c : ClassOf Text). not c.kernel) i.classes) s.classes.behind.own;
    methods = front_whole method_of_kernel i.methods f.methods ∙ ap (λ (ms : List (EntryOf Text)). ms ++ filter (λ (m : EntryOf Text). not m.kernel) i.methods) s.methods.behind.own;
  }

-- marks stay where classes change
if_kernel : (b : Bool) (d e : ClassOf Text) → d.kernel ≡ e.kernel → (if b then d else e).kernel ≡ e.kernel
if_kernel true d e h = h
if_kernel false d e h = refl

either_kernel : (a b : Bool) (c d e : ClassOf Text) → c.kernel ≡ e.kernel → d.kernel ≡ e.kernel → (if a then c else if b then d else e).kernel ≡ e.kernel
either_kernel true b c d e h k = h
either_kernel false b c d e h k = if_kernel b d e k

module _ (i : ImageOf Text) where
  -- classes that are replaced, and methods
  classes_mapped : (h : ClassOf Text → ClassOf Text) → ((e : ClassOf Text) → (h e).kernel ≡ e.kernel) → AreFronts i → AreFronts (record i { classes = map h i.classes })
  classes_mapped h keeps f = record { classes = front_map class_of_kernel h i.classes keeps f.classes; methods = f.methods }

  changed : (c : Text) (change : ClassOf Text → ClassOf Text) → ((e : ClassOf Text) → (change e).kernel ≡ e.kernel) → AreFronts i → AreFronts (with_changed text_eq c change i)
  changed c change keeps f = classes_mapped (λ e. if text_eq c e.name then change e else e) (λ e. if_kernel (text_eq c e.name) (change e) e (keeps e)) f

  option_front : (f : Text → ImageOf Text) → ((p : Text) → AreFronts (f p)) → AreFronts i → (o : Option Text) → AreFronts (option_map_or f o i)
  option_front f h g None = g
  option_front f h g (Some p) = h p

  last_kernel : (kind : VariableKind) (x : Text) (e : ClassOf Text) → (with_last kind x e).kernel ≡ e.kernel
  last_kernel kind x e = with_kernel kind (variables kind e ++ x ∷ []) e

  without_kernel : (kind : VariableKind) (x : Text) (e : ClassOf Text) → (without text_eq kind x e).kernel ≡ e.kernel
  without_kernel kind x e = with_kernel kind (filter (λ y. not (text_eq x y)) (variables kind e)) e

  renamed_front : (kind : VariableKind) (c x y : Text) → AreFronts i → AreFronts (variable_renaming.variable_renamed text_words canonical i kind c x y)
  renamed_front kind c x y f = record {
    classes =
        front_map class_of_kernel (variable_renaming.class_after text_words canonical i kind c x y) i.classes
        (λ e. if_kernel (text_eq c e.name) (with_variables kind (map (λ n. if text_eq x n then y else n) (variables kind e)) e) e (with_kernel kind (map (λ n. if text_eq x n then y else n) (variables kind e)) e)) f.classes;
    methods = front_map method_of_kernel (variable_renaming.method_after text_words canonical i kind c x y) i.methods (λ m. refl) f.methods;
  }

moved_front : (i : ImageOf Text) (c d x : Text) → AreFronts i → AreFronts (shared_moved text_eq c x d i)
moved_front i c d x f = changed (with_changed text_eq c (without text_eq of_class x) i) d (with_last of_class x) (last_kernel i of_class x) (changed i c (without text_eq of_class x) (without_kernel i of_class x) f)

-- a method with another tree, where there is one
pub retreed_front : (i : ImageOf Text) (c : Text) (meta : Bool) (t : Text) (change : EntryOf Text → Option (MethodOf Text)) → AreFronts i → (o : Option (EntryOf Text)) → AreFronts (unwrap_or (option_map (λ tree. with_tree text_eq canonical c meta t tree i) (option_and_then change o)) i)
retreed_front i c meta t change f None = f
retreed_front i c meta t change f (Some m) = by (change m)
  where
    by : (o : Option (MethodOf Text)) → AreFronts (unwrap_or (option_map (λ tree. with_tree text_eq canonical c meta t tree i) o) i)
    by None = f
    by (Some tree) = record { classes = f.classes; methods = front_map method_of_kernel (replaced c meta t tree) i.methods (mark_kept c meta t tree) f.methods }

-- a method of another class, or copies of it
moved_kernel : (b : Bool) (n : EntryOf Text) (p : Text) → (if b then of_class_named n p else n).kernel ≡ n.kernel
moved_kernel true n p = refl
moved_kernel false n p = refl

copied_kernel : (b : Bool) (n : EntryOf Text) (rs : List Text) (m : EntryOf Text) → In (if b then map (of_class_named n) rs else n ∷ []) m → m.kernel ≡ n.kernel
copied_kernel true n rs m h = let r = map_in (of_class_named n) rs m h in ap (λ (x : EntryOf Text). x.kernel) (sym r.2)
copied_kernel false n rs m (inl q) = ap (λ (x : EntryOf Text). x.kernel) (sym q)
copied_kernel false n rs m (inr h) = absurd h

module _ (kernel i : ImageOf Text) (s : IsSound kernel i) (whole : IsWhole kernel) where
  under_kernel : (d : Text) (under : List Text) (e : ClassOf Text) → (put_under text_eq d under e).kernel ≡ e.kernel
  under_kernel d under e = if_kernel (is_among text_eq under e.name) (record e { superclass = Some d }) e refl

  under_name : (d : Text) (under : List Text) (e : ClassOf Text) → (put_under text_eq d under e).name ≡ e.name
  under_name d under e = by (is_among text_eq under e.name)
    where
      by : (b : Bool) → (if b then record e { superclass = Some d } else e).name ≡ e.name
      by true = refl
      by false = refl

  class_put : (d p : Text) (under : List Text) → AllHold text_asked i (AddClass d p under) → AreFronts i → AreFronts (effect text_asked canonical (AddClass d p under) i)
  class_put d p under h f = record {
    classes =
        front_put class_of_kernel (λ (e : ClassOf Text). is_among text_eq under e.name) (new_class d p) (map (put_under text_eq d under) i.classes) refl user
        (front_map class_of_kernel (put_under text_eq d under) i.classes (under_kernel d under) f.classes);
    methods = f.methods;
  }
    where
      user : (e : ClassOf Text) → In (map (put_under text_eq d under) i.classes) e → is_among text_eq under e.name ≡ true → e.kernel ≡ false
      user e k q =
          let r = map_in (put_under text_eq d under) i.classes e k in
          ap (λ (x : ClassOf Text). x.kernel) (sym r.2) ∙ under_kernel d under r.0
          ∙ (children kernel i s whole d p under h r.0 r.1 (ap (is_among text_eq under) (sym (under_name d under r.0) ∙ ap (λ (x : ClassOf Text). x.name) r.2) ∙ q)).1

  pub front_kept : (command : CommandOf Text) → MovesNoCode command → AllHold text_asked i command → AreFronts i → AreFronts (effect text_asked canonical command i)
  front_kept (RenameClass c d) shape h f = record {
    classes = front_map class_of_kernel (class_renaming.class_after text_words canonical i c d) i.classes (λ e. refl) f.classes;
    methods = front_map method_of_kernel (class_renaming.method_after text_words canonical i c d) i.methods (λ m. refl) f.methods;
  }
  front_kept (AddClass d p under) shape h f = class_put d p under h f
  front_kept (RemoveClass c) shape h f = record {
    classes = front_filter class_of_kernel (λ (e : ClassOf Text). not (text_eq c e.name)) i.classes f.classes;
    methods = front_filter method_of_kernel (λ m. not (is_method_of text_eq c m)) i.methods f.methods;
  }
  front_kept (AddInstVar c x) shape h f = changed i c (with_last of_instance x) (last_kernel i of_instance x) f
  front_kept (RenameInstVar c x y) shape h f = renamed_front i of_instance c x y f
  front_kept (RemoveInstVar c x) shape h f = changed i c (without text_eq of_instance x) (without_kernel i of_instance x) f
  front_kept (PushUpInstVar c x) shape h f =
      option_front i (λ p. record i { classes = map (class_pushed_up text_eq p x) i.classes })
      (λ p. classes_mapped i (class_pushed_up text_eq p x) (λ e. either_kernel (text_eq p e.name) (is_child text_eq p e) (with_last of_instance x e) (without text_eq of_instance x e) e refl refl) f) f (superclass_name text_eq i c)
  front_kept (PushDownInstVar c x) shape h f = classes_mapped i (class_pushed_down text_eq c x) (λ e. either_kernel (text_eq c e.name) (is_child text_eq c e) (without text_eq of_instance x e) (with_last of_instance x e) e refl refl) f
  front_kept (AddClassVar c x) shape h f = changed i c (with_last of_class x) (last_kernel i of_class x) f
  front_kept (RenameClassVar c x y) shape h f = renamed_front i of_class c x y f
  front_kept (RemoveClassVar c x) shape h f = changed i c (without text_eq of_class x) (without_kernel i of_class x) f
  front_kept (PushUpClassVar c x) shape h f = option_front i (λ p. shared_moved text_eq c x p i) (λ p. moved_front i c p x f) f (superclass_name text_eq i c)
  front_kept (PushDownClassVar c x d) shape h f = moved_front i c d x f
  front_kept (AddClassSideVar c x) shape h f = changed i c (with_last of_class_side x) (last_kernel i of_class_side x) f
  front_kept (RenameClassSideVar c x y) shape h f = renamed_front i of_class_side c x y f
  front_kept (RemoveClassSideVar c x) shape h f = changed i c (without text_eq of_class_side x) (without_kernel i of_class_side x) f
  front_kept (RenameSelector o n) shape h f = record { classes = f.classes; methods = front_map method_of_kernel (selector_renaming.method_after text_eq canonical i o n) i.methods (λ m. refl) f.methods }
  front_kept (AddMethod c meta protocol text tree) shape h f = record { classes = f.classes; methods = front_end method_of_kernel i.methods (new_method c meta protocol text tree) refl f.methods }
  front_kept (RemoveMethod c meta v) shape h f = record { classes = f.classes; methods = front_filter method_of_kernel (λ m. not (is_method text_eq c meta v m)) i.methods f.methods }
  front_kept (PushUpMethod c meta v) shape h f =
      option_front i (λ p. record i { methods = map (λ m. if is_method text_eq c meta v m then of_class_named m p else m) i.methods })
      (λ p. record { classes = f.classes; methods = front_map method_of_kernel (λ m. if is_method text_eq c meta v m then of_class_named m p else m) i.methods (λ m. moved_kernel (is_method text_eq c meta v m) m p) f.methods }) f (superclass_name text_eq i c)
  front_kept (PushDownMethod c meta v) shape h f =
      let rs = receivers text_eq i c meta v in
      record { classes = f.classes; methods = front_flat method_of_kernel (λ m. if is_method text_eq c meta v m then map (of_class_named m) rs else m ∷ []) i.methods (λ m n k. copied_kernel (is_method text_eq c meta v m) m rs n k) f.methods }
  front_kept (AddParameter o n x passed) shape h f = record {
    classes = f.classes;
    methods = (let passes = λ (xs : TreesOf Text). append xs (more_trees (literal_node passed) no_trees) in
        let takes = λ (ns : List Text). ns ++ x ∷ [] in
        front_map method_of_kernel (passed_method o n passes takes) i.methods (passed_kernel o n passes takes) f.methods);
  }
  front_kept (RemoveParameter o k n) shape h f = record {
    classes = f.classes;
    methods = (let takes = λ (ns : List Text). remove ns (k - 1) in
        front_map method_of_kernel (passed_method o n (without_nth (k - 1)) takes) i.methods (passed_kernel o n (without_nth (k - 1)) takes) f.methods);
  }
  front_kept (RenameTemp c meta v x y) shape h f = retreed_front i c meta v (λ m. Some (temporary_renamed text_asked m.tree x y)) f (users_method text_eq i c meta v)
  front_kept command shape h f = absurd shape
