-- Once the classes are there, the rest of the edits makes the other image of the one.
use Rattle.std.proofs.Common.{◌≡◌, inl, inr, Bool, true, false, not, List, [], ◌∷◌, ◌++◌, filter, Option, refl, ap, sym, subst, ◌∙◌, true≢false}
use Rattle.std.specs.Prelude.{◌&&◌, if◌then◌else◌, unwrap_or}
use Rattle.std.specs.List.{AllByRecursion, list_any}
use Rattle.std.proofs.lemmas.Bool.{and_parts}
use Rattle.rb_base.specs.Names.{text_eq}
use Rattle.token_model.specs.declared.kind.Dialect.TheVariants.{Second}
use Rattle.grammar_model.specs.Spelling.{SpellsDoIt}
use Rattle.grammar_model.proofs.Texts.{one_SpellsDoIt}
use Rattle.image_model.specs.Image.{EntryOf, DoItOf, ImageOf}
use Rattle.image_model.specs.Valid.{IsValid, IsUserDoIt, HasClass, class_names}
use Rattle.image_model.specs.Words.{text_words}
use Rattle.image_model.proofs.Ends.{contains-place}
use Rattle.file_model.specs.Fileable.{MayStand, IsDoItChunk, reading_of}
use Rattle.file_model.specs.Filing.{Text}
use Rattle.file_model.specs.Forms.{form_of}
use Rattle.file_model.specs.Hierarchy.{has_class}
use Rattle.file_model.specs.Places.{method_place, put_again_behind}
use Rattle.file_model.specs.Written.{run_of, user_methods}
use Rattle.file_laws.proofs.PutAgain.{filter_pass}
use Rattle.file_rereading.specs.Rereading.{KernelFirst}
use Rattle.file_rereading.proofs.Prefixes.{named_there}
use Rattle.change_model.specs.Equal.{is_counterpart}
use Rattle.change_model.specs.Differs.{is_among, in_both}
use Rattle.change_model.specs.Edits.{Edit, method_removals, replacements}
use Rattle.change_model.specs.Edited.{Stage, AreMade, Over, Made}
use Rattle.change_laws.specs.Merged.{Has}
use Rattle.change_laws.specs.Images.{CanBeMade, HasClassesOf, HasTheRest}
use Rattle.change_laws.proofs.Placing.{all_has, all_from}
use Rattle.change_laws.proofs.Orders.{found, any_has, has_filter, filter_has, one_alike}
use Rattle.change_laws.proofs.Tests.{counterpart_same, counterpart_back, counterparts}
use Rattle.change_laws.proofs.MethodsFiled.{IsUsers, is_its}
use Rattle.change_laws.proofs.Images.{methods_apart, user_of, other_of_kernel, files_methods}
use Rattle.change_laws.proofs.DoIts.{MayReplace, replaces}
use Rattle.change_laws.proofs.Removals.{without_all, filter_one, left_is, removes}

-- edits behind edits
pub made_further : {es fs : List Edit} {s t u : Stage} → AreMade es s t → AreMade fs t u → AreMade (es ++ fs) s u
made_further Over r = r
made_further (Made e m) r = Made e (made_further m r)

-- those of the kernel are methods of the image
in_image : (kernel i : ImageOf Text) → KernelFirst kernel i → (m : EntryOf Text) → Has m kernel.methods → Has m i.methods
in_image kernel i first m h = subst (λ (ms : List (EntryOf Text)). Has m ms) (sym first.methods) (in_front kernel.methods h)
  where
    in_front : (ms : List (EntryOf Text)) → Has m ms → Has m (ms ++ user_methods i)
    in_front [] k = absurd k
    in_front (x ∷ xs) (inl e) = inl e
    in_front (x ∷ xs) (inr k) = inr (in_front xs k)

-- the class of each method of a user is there
pub class_there : (kernel j : ImageOf Text) → IsValid text_words (reading_of Second kernel) j → (m : EntryOf Text) → Has m (user_methods j) → has_class text_eq j.classes (run_of m).class ≡ true
class_there kernel j valid m h =
    let f = filter_has (λ (x : EntryOf Text). not x.kernel) j.methods m h in
    let has = all_has (HasClass j.classes) j.methods m valid.method_classes_there f.there in
    let place = contains-place (class_names j.classes) has.0 has.2 in
    let name : has.0 ≡ (run_of m).class = ap (λ (o : Option Text). unwrap_or o []) (sym has.1) in
    ap (λ (n : Text). has_class text_eq j.classes n) (sym name) ∙ named_there j.classes place.0 has.0 place.1

module _ (kernel i j : ImageOf Text) (c : CanBeMade kernel i j) where
  -- whether the class of a method stays
  abbrev class_stays : EntryOf Text → Bool
  class_stays m = has_class text_eq j.classes (run_of m).class

  abbrev goes : EntryOf Text → Bool
  goes m = not (is_among is_counterpart (user_methods j) m) && class_stays m

  abbrev gone : List (EntryOf Text)
  gone = filter goes (user_methods i)

  abbrev before : List (EntryOf Text)
  before = filter class_stays (user_methods i)

  marked : AllByRecursion (λ (m : EntryOf Text). m.kernel ≡ true) kernel.methods
  marked = subst (AllByRecursion (λ (m : EntryOf Text). m.kernel ≡ true)) c.old.kernel_methods (filter_pass (λ (m : EntryOf Text). m.kernel) i.methods)

  others : (m e : EntryOf Text) → Has m gone → Has e kernel.methods → is_its m e ≡ false
  others m e h k = other_of_kernel kernel i c.old m e (filter_has goes (user_methods i) m h).there (in_image kernel i c.old_first e k) (all_has (λ (x : EntryOf Text). x.kernel ≡ true) kernel.methods e marked k)

  before_users : (e : EntryOf Text) → Has e before → IsUsers e
  before_users e h = user_of kernel i c.old e (filter_has class_stays (user_methods i) e h).there

  -- the class of each method of the second image is there
  its_class : (m : EntryOf Text) → Has m (user_methods j) → class_stays m ≡ true
  its_class m h = class_there kernel j c.new m h

  -- what is left are the methods of both
  left : without_all gone before ≡ in_both is_counterpart (user_methods i) (user_methods j)
  left = left_is gone before ∙ filter_one stays class_stays (is_among is_counterpart (user_methods j)) (user_methods i) same
    where
      stays : EntryOf Text → Bool
      stays x = not (list_any (λ r. is_counterpart r x) gone)

      same : (z : EntryOf Text) → Has z (user_methods i) → (if class_stays z then not (list_any (λ r. is_counterpart r z) gone) else false) ≡ is_among is_counterpart (user_methods j) z
      same z h = by (is_among is_counterpart (user_methods j) z) (class_stays z) refl refl
        where
          none_goes : (b : Bool) → list_any (λ r. is_counterpart r z) gone ≡ b → is_among is_counterpart (user_methods j) z ≡ true → not b ≡ true
          none_goes false e f = refl
          none_goes true e f =
              let r = found (λ r. is_counterpart r z) gone e in
              let g = filter_has goes (user_methods i) r.item r.there in
              let one : r.item ≡ z = one_alike is_counterpart counterpart_same counterpart_back (user_methods i) r.item z (methods_apart kernel i c.old) g.there h r.passes in
              let lacks = (and_parts (not (is_among is_counterpart (user_methods j) r.item)) (class_stays r.item) g.passes).0 in
              absurd (true≢false (sym lacks ∙ ap not (ap (is_among is_counterpart (user_methods j)) one ∙ f)))

          one_goes : is_among is_counterpart (user_methods j) z ≡ false → class_stays z ≡ true → not (list_any (λ r. is_counterpart r z) gone) ≡ false
          one_goes e f = ap not (any_has (λ r. is_counterpart r z) gone z (has_filter goes (user_methods i) z h (λ k. not (e k) && f k)) (counterpart_same z))

          there : is_among is_counterpart (user_methods j) z ≡ true → class_stays z ≡ true
          there e =
              let f = found (is_counterpart z) (user_methods j) e in
              ap (λ (n : Text). has_class text_eq j.classes n) ((counterparts z f.item f.passes).class) ∙ its_class f.item f.there

          by : (a b : Bool) → is_among is_counterpart (user_methods j) z ≡ a → class_stays z ≡ b → (if b then not (list_any (λ r. is_counterpart r z) gone) else false) ≡ a
          by true true e f = none_goes (list_any (λ r. is_counterpart r z) gone) refl e
          by true false e f = absurd (true≢false (sym (there e) ∙ f))
          by false true e f = one_goes e f
          by false false e f = refl

  -- do-its spell what they are
  spelled : (x : ImageOf Text) → AllByRecursion (IsUserDoIt (reading_of Second kernel)) x.doits → (d : DoItOf Text) → Has d x.doits → SpellsDoIt Second d.source d.body
  spelled x all d h = (all_has (IsUserDoIt (reading_of Second kernel)) x.doits d all h).spells

  -- those of the image that can be written are do-its as chunks of their own
  may_replace : (d : DoItOf Text) → Has d j.doits → MayReplace d
  may_replace d h =
      let chunk = all_has (λ (x : DoItOf Text). IsDoItChunk Second x.source) j.doits d c.new_fileable.doit_chunks h in
      let spells = spelled j c.new.doits d h in
      record {
        spells = spells;
        stands = all_has (λ (x : DoItOf Text). MayStand x.source) j.doits d c.new_fileable.doit_sources h;
        form = ap (form_of Second false) (one_SpellsDoIt Second d.source d.body chunk.body spells chunk.spells) ∙ chunk.form;
      }

  pub files_the_rest : (s : Stage) → HasClassesOf kernel i j s → HasTheRest i j s
  files_the_rest s w =
      let first = removes s.image kernel.methods gone before s.places w.no_places (λ r h. w.there (run_of r).class (and_parts (not (is_among is_counterpart (user_methods j) r)) (class_stays r) (filter_has goes (user_methods i) r h).passes).1) others before_users in
      let begins : ◌≡◌ {A = Stage} (record { image = record s.image { methods = kernel.methods ++ before }; places = s.places }) s = λ k. record { image = record s.image { methods = sym w.methods k }; places = s.places } in
      let middle : Stage = record { image = record s.image { methods = kernel.methods ++ without_all gone before }; places = first.stated } in
      let second = files_methods kernel i j c middle (record {
        there = all_from (λ (m : EntryOf Text). has_class text_eq s.image.classes (run_of m).class ≡ true) (user_methods j) (λ m h. w.there (run_of m).class (its_class m h));
        methods = ap (λ (ms : List (EntryOf Text)). kernel.methods ++ ms) left;
        no_places = first.methods;
      }) in
      let third = replaces second.end.image [] i.doits j.doits second.end.places c.doits (spelled i c.old.doits) may_replace in
      let old_doits : i.doits ≡ second.end.image.doits = sym w.doits ∙ sym (ap (λ (x : ImageOf Text). x.doits) second.others) in
      let goes_on : ◌≡◌ {A = Stage} (record { image = record second.end.image { doits = i.doits }; places = second.end.places }) second.end = λ k. record { image = record second.end.image { doits = old_doits k }; places = second.end.places } in
      let last : Stage = record { image = record second.end.image { doits = j.doits }; places = third.stated } in
      let replaced : AreMade (replacements i j) second.end last = subst (λ (t : Stage). AreMade (replacements i j) t last) goes_on third.made in
      let removed : AreMade (method_removals i j) s middle = subst (λ (t : Stage). AreMade (method_removals i j) t middle) begins first.made in
      record {
        end = last;
        made = made_further removed (made_further second.made replaced);
        classes = ap (λ (x : ImageOf Text). x.classes) second.others;
        class_places = third.classes ∙ second.class_places ∙ first.classes;
        settled_methods = ap (λ (ps : List _). put_again_behind (λ (m : EntryOf Text). m.kernel) (method_place text_eq ps) second.end.image.methods) third.methods ∙ second.settled_methods;
        doits = refl;
        heads = ap (λ (x : ImageOf Text). x.heads) second.others ∙ w.heads ∙ c.heads;
      }
