-- A valid image with a new class under one class and above some others.
use Rattle.std.proofs.Common.{◌≡◌, ◌⊎◌, inl, inr, Bool, true, false, List, [], ◌∷◌, map, Some, None, refl, sym, ap, subst, ◌∙◌, true≢false}
use Rattle.std.specs.Prelude.{if◌then◌else◌, IsTrue, codes}
use Rattle.rb_base.specs.Names.{text_eq}
use Rattle.scope_model.specs.Scope.{is_among}
use Rattle.image_model.specs.Image.{ClassOf, ImageOf}
use Rattle.image_model.specs.Words.{text_words}
use Rattle.image_model.specs.Means.{VariableKind, of_instance, of_class_side, of_class, variables}
use Rattle.image_model.specs.Valid.{class_names, GivesNames}
use Rattle.file_model.specs.Filing.{Text}
use Rattle.file_laws.specs.Fronts.{class_of_kernel}
use Rattle.file_laws.proofs.Moves.{text_equal}
use Rattle.command_model.specs.ClassEffects.{new_class, put_before, put_under, class_added}
use Rattle.command_model.proofs.OrdersAfter.{added-before}
use Rattle.effect_laws.proofs.Items.{in_all, In, Once, in_place, place_in, in_map, map_in}
use Rattle.effect_laws.proofs.Above.{IsAbove, Next, Further, AreApart}
use Rattle.effect_laws.proofs.Fronts.{StandBehind, put_in, kernel_in, behind_map, behind_put}
use Rattle.effect_laws.proofs.Sound.{IsInherited, MayBeName, IsRooted, AreSoundClasses, IsSound}
use Rattle.effect_laws.proofs.Kernel.{IsWhole}
use Rattle.effect_laws.proofs.ClassCommands.{once_put, others_there}

module _ (kernel i : ImageOf Text) (s : IsSound kernel i) (whole : IsWhole kernel) (d p : Text) (under : List Text)
    (good : MayBeName d) (new : In (class_names i.classes) d → ⊥) (there : In (class_names i.classes) p)
    (child : (e : ClassOf Text) → In i.classes e → is_among text_eq under e.name ≡ true → (e.superclass ≡ Some p) × (e.kernel ≡ false)) where
  abbrev cs : List (ClassOf Text)
  cs = i.classes

  abbrev h : ClassOf Text → ClassOf Text
  h e = put_under text_eq d under e

  abbrev passes : ClassOf Text → Bool
  passes e = is_among text_eq under e.name

  abbrev x : ClassOf Text
  x = new_class d p

  abbrev ds : List (ClassOf Text)
  ds = put_before passes x (map h cs)

  -- what becomes of a class
  abbrev Placed : ClassOf Text → Type 0
  Placed e = ((passes e ≡ true) × (h e ≡ record e { superclass = Some d })) ⊎ ((passes e ≡ false) × (h e ≡ e))

  placed : (e : ClassOf Text) → Placed e
  placed e = by (passes e) refl
    where
      by : (b : Bool) → passes e ≡ b → ((passes e ≡ true) × ((if b then record e { superclass = Some d } else e) ≡ record e { superclass = Some d })) ⊎ ((passes e ≡ false) × ((if b then record e { superclass = Some d } else e) ≡ e))
      by true q = inl (q, refl)
      by false q = inr (q, refl)

  name_same : (e : ClassOf Text) → (h e).name ≡ e.name
  name_same e = by (placed e)
    where
      by : Placed e → (h e).name ≡ e.name
      by (inl a) = ap (λ (b : ClassOf Text). b.name) a.1
      by (inr b) = ap (λ (b : ClassOf Text). b.name) b.1

  kernel_same : (e : ClassOf Text) → (h e).kernel ≡ e.kernel
  kernel_same e = by (placed e)
    where
      by : Placed e → (h e).kernel ≡ e.kernel
      by (inl a) = ap (λ (b : ClassOf Text). b.kernel) a.1
      by (inr b) = ap (λ (b : ClassOf Text). b.kernel) b.1

  variables_same : (kind : VariableKind) (e : ClassOf Text) → variables kind (h e) ≡ variables kind e
  variables_same kind e = by kind (placed e)
    where
      by : (kind : VariableKind) → Placed e → variables kind (h e) ≡ variables kind e
      by of_instance (inl a) = ap (λ (b : ClassOf Text). b.instance) a.1
      by of_class_side (inl a) = ap (λ (b : ClassOf Text). b.class_side) a.1
      by of_class (inl a) = ap (λ (b : ClassOf Text). b.shared) a.1
      by kind (inr b) = ap (variables kind) b.1

  -- its superclass is the one that it had, or the new class
  superclass_now : (e : ClassOf Text) → In cs e → (n : Text) → (h e).superclass ≡ Some n → (e.superclass ≡ Some n) ⊎ ((d ≡ n) × (e.superclass ≡ Some p))
  superclass_now e k n q = by (placed e)
    where
      by : Placed e → (e.superclass ≡ Some n) ⊎ ((d ≡ n) × (e.superclass ≡ Some p))
      by (inl a) = inr ((let same : Some d ≡ Some n = sym (ap (λ (b : ClassOf Text). b.superclass) a.1) ∙ q in cc), (child e k a.0).0)
      by (inr b) = inl (sym (ap (λ (c : ClassOf Text). c.superclass) b.1) ∙ q)

  -- no class has the new one as its superclass before
  no_child : (e : ClassOf Text) → In cs e → e.superclass ≡ Some d → ⊥
  no_child e k q = let at = in_place cs e k in let r = s.classes.before at.0 e d at.1 q in new (place_in (class_names cs) r.0 d r.2)

  named_apart : (e : ClassOf Text) → In cs e → e.name ≡ d → ⊥
  named_apart e k q = new (subst (In (class_names cs)) q (in_map (λ (c : ClassOf Text). c.name) cs e k))

  -- the classes after
  abbrev Now : ClassOf Text → Type 0
  Now b = (x ≡ b) ⊎ ((e : ClassOf Text) × In cs e × (h e ≡ b))

  now : (b : ClassOf Text) → In ds b → Now b
  now b k = by (put_in passes x (map h cs) b k)
    where
      by : (x ≡ b) ⊎ In (map h cs) b → Now b
      by (inl q) = inl q
      by (inr l) = inr (map_in h cs b l)

  -- what stands above an old class: the new one, or what stood above it
  abbrev Above : ClassOf Text → ClassOf Text → Type 0
  Above a e = (x ≡ a) ⊎ ((b : ClassOf Text) × In cs b × (h b ≡ a) × IsAbove cs b e)

  further : (a b e : ClassOf Text) → e.superclass ≡ Some b.name → In cs b → Above a b → Above a e
  further a b e q k (inl r) = inl r
  further a b e q k (inr r) = inr (r.0, r.1, r.2, Further q k r.3)

  -- what stands above the new class stood above each class that is under it now
  abbrev AboveNew : ClassOf Text → Type 0
  AboveNew a = (e : ClassOf Text) → e.superclass ≡ Some p → Above a e

  next_new : (a : ClassOf Text) → a.name ≡ p → Now a → AboveNew a
  next_new a q (inl r) e up = inl r
  next_new a q (inr r) e up = inr (r.0, r.1, r.2, Next (up ∙ ap Some (sym q ∙ ap (λ (b : ClassOf Text). b.name) (sym r.2) ∙ name_same r.0)) r.1)

  next_old : (a e : ClassOf Text) → In cs e → (e.superclass ≡ Some a.name) ⊎ ((d ≡ a.name) × (e.superclass ≡ Some p)) → Now a → Above a e
  next_old a e k q (inl r) = inl r
  next_old a e k (inl q) (inr r) = inr (r.0, r.1, r.2, Next (q ∙ ap Some (ap (λ (b : ClassOf Text). b.name) (sym r.2) ∙ name_same r.0)) r.1)
  next_old a e k (inr q) (inr r) = absurd (named_apart r.0 r.1 (sym (name_same r.0) ∙ ap (λ (b : ClassOf Text). b.name) r.2 ∙ sym q.0))

  further_new : (a b : ClassOf Text) → b.name ≡ p → Now b → (x ≡ b → AboveNew a) → ((e : ClassOf Text) → In cs e → h e ≡ b → Above a e) → AboveNew a
  further_new a b q (inl r) first second e up = first r e up
  further_new a b q (inr r) first second e up =
      further a r.0 e (up ∙ ap Some (sym q ∙ ap (λ (c : ClassOf Text). c.name) (sym r.2) ∙ name_same r.0)) r.1 (second r.0 r.1 r.2)

  further_old : (a b e : ClassOf Text) → In cs e → (e.superclass ≡ Some b.name) ⊎ ((d ≡ b.name) × (e.superclass ≡ Some p)) → Now b → (x ≡ b → AboveNew a) → ((e : ClassOf Text) → In cs e → h e ≡ b → Above a e) → Above a e
  further_old a b e k (inl q) (inl r) first second = absurd (no_child e k (q ∙ ap (λ (c : ClassOf Text). Some c.name) (sym r)))
  further_old a b e k (inr q) (inl r) first second = first r e q.1
  further_old a b e k (inl q) (inr r) first second = further a r.0 e (q ∙ ap Some (ap (λ (c : ClassOf Text). c.name) (sym r.2) ∙ name_same r.0)) r.1 (second r.0 r.1 r.2)
  further_old a b e k (inr q) (inr r) first second = absurd (named_apart r.0 r.1 (sym (name_same r.0) ∙ ap (λ (c : ClassOf Text). c.name) r.2 ∙ sym q.0))

  superclass_of_new : (b : ClassOf Text) (n : Text) → x ≡ b → b.superclass ≡ Some n → n ≡ p
  superclass_of_new b n q up = let same : Some p ≡ Some n = ap (λ (c : ClassOf Text). c.superclass) q ∙ up in cc

  above_now : (a b : ClassOf Text) → IsAbove ds a b → (x ≡ b → AboveNew a) × ((e : ClassOf Text) → In cs e → h e ≡ b → Above a e)
  above_now a b (Next q k) = (
    (λ r. next_new a (superclass_of_new b a.name r q) (now a k)),
    (λ e l r. next_old a e l (superclass_now e l a.name (ap (λ (c : ClassOf Text). c.superclass) r ∙ q)) (now a k)),
  )
  above_now a b (Further {b = m} q k rest) =
      let more = above_now a m rest in (
        (λ r. further_new a m (superclass_of_new b m.name r q) (now m k) more.0 more.1),
        (λ e l r. further_old a m e l (superclass_now e l m.name (ap (λ (c : ClassOf Text). c.superclass) r ∙ q)) (now m k) more.0 more.1),
      )

  -- the names of the classes
  names_same : class_names (map h cs) ≡ class_names cs
  names_same = names_mapped_same cs (λ e k. name_same e)
    where
      names_mapped_same : (bs : List (ClassOf Text)) → ((e : ClassOf Text) → In bs e → (h e).name ≡ e.name) → class_names (map h bs) ≡ class_names bs
      names_mapped_same [] same = refl
      names_mapped_same (b ∷ bs) same = λ j. same b (inl refl) j ∷ names_mapped_same bs (λ e k. same e (inr k)) j

  -- a fact of each class after
  each : (P : ClassOf Text → Type 0) → P x → ((e : ClassOf Text) → In cs e → P (h e)) → (b : ClassOf Text) → In ds b → P b
  each P own old b k = by (now b k)
    where
      by : Now b → P b
      by (inl q) = subst P q own
      by (inr r) = subst P r.2 (old r.0 r.1)

  root_new : IsRooted x
  root_new = ((λ t. absurd (not_object t)), (λ q. absurd (there_is_one q)))
    where
      not_object : IsTrue (text_words.is_object d) → ⊥
      not_object t =
          let r = map_in (λ (c : ClassOf Text). c.name) kernel.classes (codes "Object") whole.object in
          named_apart r.0 (kernel_in class_of_kernel kernel.classes cs s.classes.behind r.0 r.1) (r.2 ∙ text_equal (codes "Object") d t)

      there_is_one : Some p ≡ None → ⊥
      there_is_one q = cc

  root_old : (e : ClassOf Text) → In cs e → IsRooted (h e)
  root_old e k = by (placed e)
    where
      differ : (n : Text) → Some n ≡ None → ⊥
      differ n q = cc

      by : Placed e → IsRooted (h e)
      by (inl a) =
          subst IsRooted (sym a.1)
          ((λ t. absurd (differ p (sym (child e k a.0).0 ∙ (s.classes.rooted e k).0 t))), (λ q. absurd (differ d q)))
      by (inr b) = subst IsRooted (sym b.1) (s.classes.rooted e k)

  named_old : (e : ClassOf Text) → In cs e → GivesNames MayBeName (h e)
  named_old e k = by (placed e)
    where
      g : GivesNames MayBeName e
      g = s.classes.named e k

      by : Placed e → GivesNames MayBeName (h e)
      by (inl a) = subst (GivesNames MayBeName) (sym a.1) (record { name = g.name; instance = g.instance; class_side = g.class_side; shared = g.shared })
      by (inr b) = subst (GivesNames MayBeName) (sym b.1) g

  none_own : (kind : VariableKind) → variables kind x ≡ []
  none_own of_instance = refl
  none_own of_class_side = refl
  none_own of_class = refl

  apart_now : (kind : VariableKind) → IsInherited kind → AreApart ds kind
  apart_now kind t b a k up y l m = by (now b k)
    where
      last : (e : ClassOf Text) → In cs e → h e ≡ b → Above a e → ⊥
      last e o q (inl r) = subst (λ (ns : List Text). In ns y) (ap (variables kind) (sym r) ∙ none_own kind) m
      last e o q (inr r) =
          s.classes.apart kind t e r.0 o r.3 y (subst (λ (ns : List Text). In ns y) (ap (variables kind) (sym q) ∙ variables_same kind e) l)
          (subst (λ (ns : List Text). In ns y) (ap (variables kind) (sym r.2) ∙ variables_same kind r.0) m)

      by : Now b → ⊥
      by (inl q) = subst (λ (ns : List Text). In ns y) (ap (variables kind) (sym q) ∙ none_own kind) l
      by (inr r) = last r.0 r.1 r.2 ((above_now a b up).1 r.0 r.1 r.2)

  not_passing : (e : ClassOf Text) → In kernel.classes e → passes e ≡ false
  not_passing e k = by (passes e) refl
    where
      by : (b : Bool) → passes e ≡ b → passes e ≡ false
      by true q = absurd (true≢false (sym (s.classes.behind.of_kernel e k) ∙ (child e (kernel_in class_of_kernel kernel.classes cs s.classes.behind e k) q).1))
      by false q = q

  fixed : (e : ClassOf Text) → In kernel.classes e → h e ≡ e
  fixed e k = ap (λ b. if b then record e { superclass = Some d } else e) (not_passing e k)

  mapped : StandBehind class_of_kernel kernel.classes (map h cs)
  mapped = behind_map class_of_kernel kernel.classes cs s.classes.behind h fixed (λ e k q. kernel_same e ∙ q)

  classes_now : AreSoundClasses kernel ds
  classes_now = record {
    distinct = once_put passes x (map h cs) (subst Once (sym names_same) s.classes.distinct) (λ k. new (subst (λ (ns : List Text). In ns d) names_same k));
    before =
        added-before d p under cs (in_place (class_names cs) p there) (in_all (λ (e : ClassOf Text). is_among text_eq under e.name ≡ true → e.superclass ≡ Some p) cs (λ e k q. (child e k q).0)) s.classes.before;
    rooted = each IsRooted root_new root_old;
    named = each (GivesNames MayBeName) (record { name = good; instance = tt; class_side = tt; shared = tt }) named_old;
    own = λ kind. each (λ c. Once (variables kind c)) (subst Once (sym (none_own kind)) tt) (λ e k. subst Once (sym (variables_same kind e)) (s.classes.own kind e k));
    apart = apart_now;
    behind = behind_put class_of_kernel kernel.classes (map h cs) mapped passes x refl;
  }

  pub class_added_sound : IsSound kernel (class_added text_eq d p under i)
  class_added_sound = record {
    classes = classes_now;
    methods = record {
      once = s.methods.once;
      homes = λ m k. (let r = s.methods.homes m k in (r.0, r.1, home r.0 r.2));
      spelled = s.methods.spelled;
      behind = s.methods.behind;
    };
    doits = s.doits;
  }
    where
      home : (n : Text) → In (class_names cs) n → In (class_names ds) n
      home n k =
          let r = map_in (λ (c : ClassOf Text). c.name) cs n k in
          subst (In (class_names ds)) (name_same r.0 ∙ r.2) (in_map (λ (c : ClassOf Text). c.name) ds (h r.0) (others_there passes x (map h cs) (h r.0) (in_map h cs r.0 r.1)))
