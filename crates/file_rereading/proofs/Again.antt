-- The text of an image is read again.
use Rattle.std.proofs.Common.{◌≡◌, ℕ, suc, ◌+◌, ◌≤◌, ◌↔◌, Bool, true, false, not, cond, List, [], ◌∷◌, ◌++◌, length, map, filter, take, drop, Option, Some, None, slice_get, refl, ap, sym, subst, ◌∙◌, arith, append_assoc, append-nil, length-append, true≢false, take-append-drop}
use Rattle.std.specs.Prelude.{codes, ◌==◌, ◌&&◌, if◌then◌else◌, flat_map, IsTrue, is_some}
use Rattle.std.specs.List.{AllByRecursion}
use Rattle.std.proofs.lemmas.Bool.{ne_eqb}
use Rattle.std.proofs.lemmas.List.{length-take-le}
use Rattle.rb_base.specs.Names.{text_eq}
use Rattle.token_model.specs.declared.kind.Dialect.TheVariants.{Second}
use Rattle.chunk_format.specs.Left.{start_of}
use Rattle.image_model.specs.Image.{ClassOf, EntryOf, DoItOf, ImageOf}
use Rattle.image_model.specs.Chain.{class_named}
use Rattle.image_model.specs.Words.{text_words}
use Rattle.image_model.specs.Valid.{HasNoRepeat, SuperclassesStandBefore, class_names, signature, HasClass, IsUserMethod, IsUserDoIt, IsValid, IsFileable}
use Rattle.image_model.proofs.Ends.{contains-place}
use Rattle.image_model.proofs.Lists.{all-both}
use Rattle.file_model.specs.Hierarchy.{has_class}
use Rattle.file_model.specs.Filing.{Text}
use Rattle.file_model.specs.Written.{doit_text, class_text, methods_text, user_classes, user_methods, file_of}
use Rattle.file_model.specs.Fileable.{MayStand, IsDoItChunk, reading_of}
use Rattle.file_model.specs.Reading.{IsKernelOf, IsImageOf}
use Rattle.file_model.specs.Places.{no_places, placed}
use Rattle.rb_base.proofs.NamesLemmas.{text_eq-refl}
use Rattle.file_laws.proofs.Moves.{text_equal}
use Rattle.file_laws.proofs.PlacedImages.{placed_stays}
use Rattle.file_laws.proofs.PutAgain.{filter_pass}
use Rattle.file_laws.proofs.Sound.{fileable, All-filter}
use Rattle.file_laws.proofs.Redefined.{no_repeat_behind}
use Rattle.file_rereading.specs.Rereading.{IsWithinLimits, IsBeginning, KernelFirst, is_only_doits, with_heads}
use Rattle.file_laws.proofs.Whole.{valid_image}
use Rattle.file_rereading.proofs.Marked.{kernel_marked}
use Rattle.file_rereading.proofs.Readings.{outside, with_doits, ReadsOn, reads_further, reads_text}
use Rattle.file_rereading.proofs.Names.{identifier_of}
use Rattle.file_rereading.proofs.DoIts.{IsGoodDoIt, reads_doits}
use Rattle.file_rereading.proofs.Limits.{kernel_counted, limits_image}
use Rattle.file_rereading.proofs.Stays.{first_in_image}
use Rattle.file_rereading.proofs.Fresh.{all_front, all_back}
use Rattle.file_rereading.proofs.Methods.{with_methods, IsGoodMethod, still, reads_methods}
use Rattle.file_rereading.proofs.Prefixes.{named_there, named_given}
use Rattle.file_rereading.proofs.Classes.{with_classes, AreSound, IsUserClass, reads_classes}

-- what is chosen by the negation of a test has it false
all_not : {X : Type 0} (p : X → Bool) (xs : List X) → AllByRecursion (λ x. p x ≡ false) (filter (λ x. not (p x)) xs)
all_not p [] = tt
all_not p (x ∷ xs) = by (p x) refl (all_not p xs)
  where
    by : (b : Bool) → p x ≡ b → AllByRecursion (λ y. p y ≡ false) (filter (λ y. not (p y)) xs) → AllByRecursion (λ y. p y ≡ false) (cond (not b) (x ∷ filter (λ y. not (p y)) xs) (filter (λ y. not (p y)) xs))
    by true e rest = rest
    by false e rest = (e, rest)

-- two facts of each item make a third
all_two : {X : Type 0} (P Q R : X → Type 0) (xs : List X) → ((x : X) → P x → Q x → R x) → AllByRecursion P xs → AllByRecursion Q xs → AllByRecursion R xs
all_two P Q R [] f a b = tt
all_two P Q R (x ∷ xs) f a b = (f x a.0 b.0, all_two P Q R xs f a.1 b.1)

-- a list with an item is not empty
has_some : {X : Type 0} (x : X) (xs : List X) → (length (x ∷ xs) == 0) ≡ false
has_some x xs = ne_eqb (length (x ∷ xs)) 0 (λ e. omega arith)

-- whether still no class and no method was read
still_none : {X Y : Type 0} (xs : List X) (ys : List Y) → still (still true xs) ys ≡ (length xs == 0 && length ys == 0)
still_none [] [] = refl
still_none [] (y ∷ ys) = sym (has_some y ys)
still_none (x ∷ xs) [] = ap (λ (b : Bool). b && true) (sym (has_some x xs))
still_none (x ∷ xs) (y ∷ ys) = ap (λ (b : Bool). b && (length (y ∷ ys) == 0)) (sym (has_some x xs))

-- items of another name than that of an item before them
differ : (n : Text) (cs : List (ClassOf Text)) → ((j : ℕ) → slice_get (class_names cs) j ≡ Some n → ⊥) → AllByRecursion (λ c. c.name ≡ n → ⊥) cs
differ n [] none = tt
differ n (c ∷ cs) none = ((λ e. none 0 (ap Some e)), differ n cs (λ j e. none (suc j) e))

-- classes behind some that have a name do not have it
apart : (front users : List (ClassOf Text)) (n : Text) → HasNoRepeat (class_names (front ++ users)) → has_class text_eq front n ≡ true → AllByRecursion (λ c. c.name ≡ n → ⊥) users
apart [] users n once there = absurd (true≢false (sym there))
apart (x ∷ xs) users n once there = by (text_eq n x.name) refl there (λ h. apart xs users n (no_repeat_behind x.name (class_names (xs ++ users)) once) h)
  where
    by : (b : Bool) → text_eq n x.name ≡ b → is_some (cond b (Some x) (class_named text_eq xs n)) ≡ true → (has_class text_eq xs n ≡ true → AllByRecursion (λ c. c.name ≡ n → ⊥) users) → AllByRecursion (λ c. c.name ≡ n → ⊥) users
    by true e h rest =
        let same : n ≡ x.name = text_equal n x.name e in
        all_back (λ (c : ClassOf Text). c.name ≡ n → ⊥) xs users
        (differ n (xs ++ users) (λ j f. let twice : 0 ≡ suc j = once 0 (suc j) n (ap Some (sym same)) f in omega (arith, twice)))
    by false e h rest = rest h

-- classes of users have superclasses
abbrev HasRoot : ClassOf Text → Type 0
HasRoot c = IsTrue (text_eq (codes "Object") c.name) ↔ (c.superclass ≡ None)

user_class : (c : ClassOf Text) → HasRoot c → (c.name ≡ codes "Object" → ⊥) → c.kernel ≡ false → IsUserClass c
user_class c root other user = by c.superclass refl
  where
    by : (o : Option Text) → c.superclass ≡ o → IsUserClass c
    by None e = absurd (other (sym (text_equal (codes "Object") c.name (root.1 e))))
    by (Some p) e = record { above = p; under = e; user = user }

-- an image that can be written, and the kernel at its beginning
record IsWritten (kernel i : ImageOf Text) : Type 0 where
  valid : IsValid text_words (reading_of Second kernel) i
  fileable : IsFileable (reading_of Second kernel) i
  limits : IsWithinLimits i
  beginning : IsBeginning kernel
  uncounted : kernel.heads ≡ 0
  first : KernelFirst kernel i

module _ (kernel i : ImageOf Text) (w : IsWritten kernel i) where
  sound : AreSound i.classes
  sound = record {
    distinct = w.valid.class_names_distinct;
    before = w.valid.superclasses_before;
    given = w.valid.names_may_be_given;
    instance_once = w.valid.instance_variables_once;
    side_once = w.valid.class_side_variables_once;
    shared_once = w.valid.class_variables_once;
    few = w.limits.classes;
  }

  sound_parts : AreSound (kernel.classes ++ user_classes i)
  sound_parts = subst AreSound w.first.classes sound

  -- the classes of the user
  users : AllByRecursion IsUserClass (user_classes i)
  users =
      let roots = All-filter HasRoot (λ (c : ClassOf Text). not c.kernel) i.classes w.valid.only_object_is_root in
      let others = apart kernel.classes (user_classes i) (codes "Object") sound_parts.distinct w.beginning.root in
      let both = all-both HasRoot (λ (c : ClassOf Text). c.name ≡ codes "Object" → ⊥) (user_classes i) roots others in
      all_two (λ (c : ClassOf Text). HasRoot c × (c.name ≡ codes "Object" → ⊥)) (λ (c : ClassOf Text). c.kernel ≡ false) IsUserClass (user_classes i) (λ c p user. user_class c p.0 p.1 user) both (all_not (λ (c : ClassOf Text). c.kernel) i.classes)

  -- a method of the user, where the classes are those of the image
  good_method : (j : ImageOf Text) → i.classes ≡ j.classes → (m : EntryOf Text) → HasClass i.classes m → (m.kernel ≡ false → IsUserMethod (reading_of Second kernel) m) → (m.kernel ≡ false → MayStand m.source) → m.kernel ≡ false → IsGoodMethod j m
  good_method j same m has spells stands user =
      let place = contains-place (class_names i.classes) has.0 has.2 in
      record {
        class = has.0;
        named = has.1;
        there = subst (λ (cs : List (ClassOf Text)). has_class text_eq cs has.0 ≡ true) same (named_there i.classes place.0 has.0 place.1);
        word = identifier_of has.0 (named_given i.classes sound.given place.0 has.0 place.1);
        spells = (spells user).spells;
        stands = stands user;
        user = user;
      }

  -- the methods of the user
  methods : (j : ImageOf Text) → i.classes ≡ j.classes → AllByRecursion (IsGoodMethod j) (user_methods i)
  methods j same =
      let spelled = all-both (HasClass i.classes) (λ (m : EntryOf Text). m.kernel ≡ false → IsUserMethod (reading_of Second kernel) m) i.methods w.valid.method_classes_there w.valid.user_methods in
      let all = all_two (λ (m : EntryOf Text). HasClass i.classes m × (m.kernel ≡ false → IsUserMethod (reading_of Second kernel) m)) (λ (m : EntryOf Text). m.kernel ≡ false → MayStand m.source) (λ (m : EntryOf Text). m.kernel ≡ false → IsGoodMethod j m) i.methods (λ m p stands. good_method j same m p.0 p.1 stands) spelled w.fileable.method_sources in
      all_two (λ (m : EntryOf Text). m.kernel ≡ false → IsGoodMethod j m) (λ (m : EntryOf Text). m.kernel ≡ false) (IsGoodMethod j) (user_methods i) (λ m good user. good user) (All-filter (λ (m : EntryOf Text). m.kernel ≡ false → IsGoodMethod j m) (λ (m : EntryOf Text). not m.kernel) i.methods all) (all_not (λ (m : EntryOf Text). m.kernel) i.methods)

  -- the do-its
  doits : AllByRecursion IsGoodDoIt i.doits
  doits =
      let stands = all-both (λ (d : DoItOf Text). MayStand d.source) (λ (d : DoItOf Text). IsDoItChunk Second d.source) i.doits w.fileable.doit_sources w.fileable.doit_chunks in
      all_two (IsUserDoIt (reading_of Second kernel)) (λ (d : DoItOf Text). MayStand d.source × IsDoItChunk Second d.source) IsGoodDoIt i.doits (λ d spells p. record { spells = spells.spells; stands = p.0; chunk = p.1 }) w.valid.doits stands

  abbrev heads : List (DoItOf Text)
  heads = take i.heads i.doits

  abbrev others : List (DoItOf Text)
  others = drop i.heads i.doits

  parts : heads ++ others ≡ i.doits
  parts = take-append-drop i.heads i.doits

  doits_in_parts : AllByRecursion IsGoodDoIt (heads ++ others)
  doits_in_parts = subst (AllByRecursion IsGoodDoIt) (sym parts) doits

  -- the image so far: behind the do-its at the head, behind the classes, and behind the methods
  abbrev with_head_doits : ImageOf Text
  with_head_doits = with_doits true kernel heads

  abbrev with_user_classes : ImageOf Text
  with_user_classes = with_classes with_head_doits (kernel.classes ++ user_classes i)

  abbrev with_user_methods : ImageOf Text
  with_user_methods = with_methods with_user_classes (kernel.methods ++ user_methods i)

  -- whether only do-its were read then
  abbrev at_head : Bool
  at_head = still (still true (user_classes i)) (user_methods i)

  abbrev at_the_end : ImageOf Text
  at_the_end = with_doits at_head with_user_methods others

  -- the text of the image is read
  reads_file : ReadsOn (file_of i) (outside kernel true) [] (outside at_the_end at_head)
  reads_file =
      let first = flat_map doit_text heads in
      let second = flat_map class_text (user_classes i) in
      let third = methods_text None (user_methods i) in
      let fourth = flat_map doit_text others in
      let one = reads_doits heads kernel true (second ++ (third ++ (fourth ++ []))) (all_front IsGoodDoIt heads others doits_in_parts) in
      let two = reads_classes kernel.classes (user_classes i) with_head_doits true (third ++ (fourth ++ [])) sound_parts users in
      let once = subst (λ (ms : List (EntryOf Text)). HasNoRepeat (map signature ms)) w.first.methods w.valid.methods_once in
      let few : length (kernel.methods ++ user_methods i) ≤ 200000 = subst (λ (ms : List (EntryOf Text)). length ms ≤ 200000) w.first.methods w.limits.methods in
      let three = reads_methods None kernel.methods (user_methods i) with_user_classes (still true (user_classes i)) (fourth ++ []) (methods with_user_classes w.first.classes) once few in
      let four = reads_doits others with_user_methods at_head [] (all_back IsGoodDoIt heads others doits_in_parts) in
      let all : ReadsOn (first ++ (second ++ (third ++ (fourth ++ [])))) (outside kernel true) [] (outside at_the_end at_head) = reads_further one (reads_further two (reads_further three four)) in
      let text : file_of i ≡ first ++ (second ++ (third ++ (fourth ++ []))) =
      append_assoc (first ++ second) third fourth ∙ append_assoc first second (third ++ fourth) ∙ ap (λ (x : Text). first ++ (second ++ (third ++ x))) (sym (append-nil fourth)) in
      subst (λ (x : Text). ReadsOn x (outside kernel true) [] (outside at_the_end at_head)) (sym text) all

  -- how many do-its are counted
  counted : (if is_only_doits i then length i.doits else i.heads) ≡ at_the_end.heads
  counted = ap (λ (b : Bool). if b then length i.doits else i.heads) (sym (still_none (user_classes i) (user_methods i))) ∙ by at_head
    where
      size : length heads ≡ i.heads
      size = length-take-le i.heads i.doits w.fileable.heads_within

      total : length heads + length others ≡ length i.doits
      total = sym (length-append heads others) ∙ ap (λ (ds : List (DoItOf Text)). length ds) parts

      none : kernel.heads ≡ 0
      none = w.uncounted

      by : (b : Bool) → (if b then length i.doits else i.heads) ≡ (if b then kernel.heads + length heads + length others else kernel.heads + length heads)
      by true = omega (arith, total, none)
      by false = omega (arith, size, none)

  -- what is read is the image
  is_image : with_heads i ≡ at_the_end
  is_image =
      let all : i.doits ≡ (kernel.doits ++ heads) ++ others = sym parts ∙ ap (λ (ds : List (DoItOf Text)). (ds ++ heads) ++ others) (sym w.beginning.no_doits) in
      let count = counted in
      λ j. record { classes = w.first.classes j; methods = w.first.methods j; doits = all j; heads = count j }

  -- nothing of it goes to another place
  stays_so : placed text_eq no_places at_the_end ≡ at_the_end
  stays_so =
      placed_stays text_eq text_eq-refl text_equal at_the_end (subst SuperclassesStandBefore w.first.classes w.valid.superclasses_before)
      (record {
        front = kernel.classes;
        back = user_classes i;
        whole = refl;
        of_kernel = subst (AllByRecursion (λ (c : ClassOf Text). c.kernel ≡ true)) w.valid.kernel_classes (filter_pass (λ (c : ClassOf Text). c.kernel) i.classes);
        of_user = all_not (λ (c : ClassOf Text). c.kernel) i.classes;
      })
      (record {
        front = kernel.methods;
        back = user_methods i;
        whole = refl;
        of_kernel = subst (AllByRecursion (λ (m : EntryOf Text). m.kernel ≡ true)) w.valid.kernel_methods (filter_pass (λ (m : EntryOf Text). m.kernel) i.methods);
        of_user = all_not (λ (m : EntryOf Text). m.kernel) i.methods;
      })

-- the image of the text of an image
pub reads_again : (prelude : Text) (kernel i : ImageOf Text) → IsKernelOf Second prelude kernel → IsBeginning kernel → KernelFirst kernel i → IsValid text_words (reading_of Second kernel) i → IsFileable (reading_of Second kernel) i → IsWithinLimits i → IsImageOf Second prelude (file_of i) (with_heads i)
reads_again prelude kernel i is beginning first valid fileable limits =
    let w : IsWritten kernel i = record { valid = valid; fileable = fileable; limits = limits; beginning = beginning; uncounted = kernel_counted Second prelude kernel is beginning.no_doits; first = first } in
    let c = reads_text (reads_file kernel i w) (start_of (file_of i)) refl in
    record {
      kernel = kernel;
      is_kernel = is;
      end = outside (at_the_end kernel i w) (at_head kernel i w);
      reads = record { pieces = c.pieces; end = None; chunks = c.chunks; takes = c.takes };
      image = is_image kernel i w ∙ sym (stays_so kernel i w);
    }

-- the image of the text of the image of a file-out
pub reads_image_again : (prelude text : Text) (kernel i : ImageOf Text) → IsKernelOf Second prelude kernel → IsBeginning kernel → IsValid text_words (reading_of Second kernel) kernel → IsImageOf Second prelude text i → IsImageOf Second prelude (file_of i) (with_heads i)
reads_image_again prelude text kernel i is beginning whole read =
    reads_again prelude kernel i is beginning (first_in_image Second prelude text kernel i is whole.superclasses_before whole.method_classes_there read) (valid_image Second prelude text kernel i is whole (kernel_marked Second prelude kernel is).sides read) (fileable Second prelude text kernel i read) (limits_image Second prelude text i read)
