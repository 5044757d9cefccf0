-- Methods are read in runs of neighbours.
use Rattle.std.proofs.Common.{◌≡◌, ◌≢◌, ◌<◌, ◌≤◌, Bool, true, false, not, List, [], ◌∷◌, ◌++◌, length, map, Option, Some, None, Ok, Err, refl, ap, sym, subst, ◌∙◌, arith, append_assoc, append-nil, length-append}
use Rattle.std.specs.Prelude.{codes, ◌&&◌, if◌then◌else◌, is_some, nat_le, unwrap_or}
use Rattle.std.specs.Bool.{beq}
use Rattle.std.specs.List.{AllByRecursion, list_all}
use Rattle.std.specs.Option.{option_map_or}
use Rattle.std.specs.Result.{result_map_both}
use Rattle.std.proofs.lemmas.Bool.{and_parts, lt-leb, false≢true}
use Rattle.rb_base.specs.Names.{text_eq}
use Rattle.rb_base.specs.Doubling.{BeginsOtherwise, doubled}
use Rattle.token_model.specs.Bytes.{is_letter, is_word}
use Rattle.token_model.specs.declared.kind.Dialect.TheVariants.{Second}
use Rattle.token_model.proofs.Leads.{other_byte}
use Rattle.chunk_format.specs.Blank.{HasNoLeadingBlank}
use Rattle.chunk_format.proofs.Doubles.{doubled-other}
use Rattle.text_model.specs.Literals.{is_identifier, quoted_text}
use Rattle.grammar_model.specs.Spelling.{SpellsMethod}
use Rattle.image_model.specs.Image.{EntryOf, DoItOf, ImageOf}
use Rattle.image_model.specs.Lookup.{is_method, own_method}
use Rattle.image_model.specs.Valid.{HasNoRepeat, signature}
use Rattle.image_model.proofs.Lists.{all-implies}
use Rattle.file_model.specs.Causes.{Cause, first_cause}
use Rattle.file_model.specs.Changes.{RunOf}
use Rattle.file_model.specs.Forms.{form_of}
use Rattle.file_model.specs.Hierarchy.{has_class}
use Rattle.file_model.specs.Refusals.{method_limit, has_method, is_kernel_method, is_one_method_too_many, method_refusals, run_refusals}
use Rattle.file_model.specs.Applied.{entry_in, with_method, method_added}
use Rattle.file_model.specs.Filing.{Text, Filing, Blank, DoItChunk, MethodChunk, goes_on, form_taken}
use Rattle.file_model.specs.Places.{no_places}
use Rattle.file_model.specs.Written.{chunk_text, run_of, is_one_run, side_text, run_start, run_end, method_opening, methods_text}
use Rattle.file_model.specs.Reading.{Empty, DoItRead, MethodRead}
use Rattle.file_model.specs.Fileable.{MayStand}
use Rattle.file_laws.proofs.Moves.{text_equal}
use Rattle.file_laws.proofs.Methods.{its_signature, beq_equal}
use Rattle.file_rereading.proofs.Readings.{outside}
use Rattle.file_rereading.specs.Trees.{opening_tree, opening_text}
use Rattle.file_rereading.proofs.Readings.{ReadsOn, reads_further, reads_none, reads_blanks, reads_chunk}
use Rattle.file_rereading.proofs.Lines.{spells_opening}
use Rattle.file_rereading.proofs.Names.{begins_no_blank, is_not_empty}
use Rattle.file_rereading.proofs.Says.{none_holds, says_opening}
use Rattle.file_rereading.proofs.Replacements.{opens_none}
use Rattle.file_rereading.proofs.Fresh.{fresh, find_none}

-- in a run of methods, or outside one
abbrev in_run : ImageOf Text → Option (RunOf Text) → Bool → Filing
in_run i run at_head = record { image = i; run = run; at_head = at_head; places = no_places }

-- the image with these methods
abbrev pub with_methods : ImageOf Text → List (EntryOf Text) → ImageOf Text
with_methods i ms = record i { methods = ms }

-- a method that can be put in where these classes are
pub record IsGoodMethod (i : ImageOf Text) (m : EntryOf Text) : Type 0 where
  pub class : Text
  pub named : m.class ≡ Some class
  pub there : has_class text_eq i.classes class ≡ true
  pub word : is_identifier class ≡ true
  pub spells : SpellsMethod Second false m.source m.tree
  pub stands : MayStand m.source
  pub user : m.kernel ≡ false

-- the class of its run
class_of_run : (i : ImageOf Text) (m : EntryOf Text) (g : IsGoodMethod i m) → g.class ≡ (run_of m).class
class_of_run i m g = ap (λ (o : Option Text). unwrap_or o []) (sym g.named)

-- an identifier does not begin with the mark
begins_otherwise : (n s u : Text) → is_identifier n ≡ true → BeginsOtherwise 33 (doubled 33 (n ++ s) ++ u)
begins_otherwise [] s u h = absurd (false≢true h)
begins_otherwise (b ∷ w) s u h =
    let other : b ≢ 33 = other_byte is_letter b 33 (and_parts (is_letter b) (list_all is_word w) h).0 refl in
    subst (λ (x : Text). BeginsOtherwise 33 (x ++ u)) (sym (doubled-other 33 b (w ++ s) other)) other

-- the opening of a run begins with the name of its class
opening_begins : (r : RunOf Text) → opening_text r ≡ r.class ++ ((if r.meta then codes " class" else []) ++ (codes " methodsFor: " ++ quoted_text r.protocol))
opening_begins r =
    append_assoc (side_text r) (codes " methodsFor: ") (quoted_text r.protocol) ∙ append_assoc r.class (if r.meta then codes " class" else []) (codes " methodsFor: " ++ quoted_text r.protocol)

-- the beginning of a run
reads_start : (r : RunOf Text) (i : ImageOf Text) (at_head : Bool) (behind : Text) → is_identifier r.class ≡ true → has_class text_eq i.classes r.class ≡ true → ReadsOn (run_start r ++ behind) (outside i at_head) behind (in_run i (Some r) false)
reads_start r i at_head behind word there =
    let rest = (if r.meta then codes " class" else []) ++ (codes " methodsFor: " ++ quoted_text r.protocol) in
    let d : DoItOf Text = record { source = opening_text r; body = opening_tree r } in
    let none : first_cause (run_refusals text_eq i.classes r) ≡ None = none_holds (run_refusals text_eq i.classes r) (ap not there, tt) in
    let takes : form_taken false (outside i at_head) d (form_of Second false (opening_tree r)) ≡ Ok (in_run i (Some r) false) =
    ap (form_taken false (outside i at_head) d) (says_opening r) ∙ ap (λ o. option_map_or Err o (Ok (in_run i (Some r) false))) none in
    let some : opening_text r ≢ [] = subst (λ (x : Text). x ≢ []) (sym (opening_begins r)) (is_not_empty r.class rest word) in
    let begins : HasNoLeadingBlank (opening_text r) = subst HasNoLeadingBlank (sym (opening_begins r)) (begins_no_blank r.class rest word) in
    let after = (chunk_text (opening_text r) ++ 10 ∷ []) ++ behind in
    let whole : doubled 33 (opening_text r) ++ (33 ∷ 10 ∷ behind) ≡ after =
    sym (append_assoc (doubled 33 (opening_text r)) (33 ∷ []) (10 ∷ behind)) ∙ sym (append_assoc (chunk_text (opening_text r)) (10 ∷ []) behind) in
    let other : BeginsOtherwise 33 after =
    subst (BeginsOtherwise 33) (ap (λ (x : Text). doubled 33 x ++ (33 ∷ 10 ∷ behind)) (sym (opening_begins r)) ∙ whole) (begins_otherwise r.class rest (33 ∷ 10 ∷ behind) word) in
    let mark : ReadsOn (33 ∷ after) (outside i at_head) after (outside i at_head) = reads_chunk [] [] after Blank refl refl other Empty refl in
    let open_ : ReadsOn after (outside i at_head) behind (in_run i (Some r) false) =
    subst (λ (s : Text). ReadsOn s (outside i at_head) behind (in_run i (Some r) false)) (sym (append_assoc (chunk_text (opening_text r)) (10 ∷ []) behind))
    (reads_chunk (opening_text r) (10 ∷ []) behind (DoItChunk (opening_text r) (opening_tree r)) begins refl (λ e. omega arith) (DoItRead some (spells_opening r word) (opens_none Second false (opening_tree r) r (says_opening r))) (sym takes)) in
    reads_further mark open_

-- the end of a run
reads_end : (q : RunOf Text) (i : ImageOf Text) (at_head : Bool) (behind : Text) → ReadsOn (run_end ++ behind) (in_run i (Some q) at_head) behind (outside i at_head)
reads_end q i at_head behind = reads_blanks (32 ∷ []) refl (reads_chunk [] (10 ∷ 10 ∷ []) behind Blank refl refl (λ e. omega arith) Empty refl)

-- two runs that are one
one_run : (q r : RunOf Text) → is_one_run q r ≡ true → q ≡ r
one_run q r h =
    let first = and_parts (text_eq q.class r.class) (beq q.meta r.meta && text_eq q.protocol r.protocol) h in
    let second = and_parts (beq q.meta r.meta) (text_eq q.protocol r.protocol) first.1 in
    let class = text_equal q.class r.class first.0 in
    let meta = beq_equal q.meta r.meta second.0 in
    let protocol = text_equal q.protocol r.protocol second.1 in
    λ j. record { class = class j; meta = meta j; protocol = protocol j }

-- what stands before a method of a run
opens : (before : Option (RunOf Text)) (r : RunOf Text) (i : ImageOf Text) (at_head : Bool) (behind : Text) → is_identifier r.class ≡ true → has_class text_eq i.classes r.class ≡ true → (h : Bool) × ReadsOn (method_opening before r ++ behind) (in_run i before at_head) behind (in_run i (Some r) h)
opens None r i at_head behind word there = (false, reads_start r i at_head behind word there)
opens (Some q) r i at_head behind word there = by (is_one_run q r) refl
  where
    by : (b : Bool) → is_one_run q r ≡ b → (h : Bool) × ReadsOn ((if b then 10 ∷ 10 ∷ [] else run_end ++ run_start r) ++ behind) (in_run i (Some q) at_head) behind (in_run i (Some r) h)
    by true e = (at_head, subst (λ (x : RunOf Text). ReadsOn (10 ∷ 10 ∷ behind) (in_run i (Some q) at_head) behind (in_run i (Some x) at_head)) (one_run q r e) (reads_blanks (10 ∷ 10 ∷ []) refl reads_none))
    by false e = (false, reads_further (reads_end q i at_head (run_start r ++ behind)) (reads_start r i at_head behind word there))

-- no method before one has its class, its side and its selector
absent : (i : ImageOf Text) (m : EntryOf Text) (g : IsGoodMethod i m) (front : List (EntryOf Text)) → AllByRecursion (λ e. signature e ≡ signature m → ⊥) front → own_method text_eq front (run_of m).class m.meta m.tree.selector ≡ None
absent i m g front all = find_none test front (all-implies (λ e. signature e ≡ signature m → ⊥) (λ e. test e ≡ false) fails front all)
  where
    test : EntryOf Text → Bool
    test = is_method text_eq (run_of m).class m.meta m.tree.selector

    own : ◌≡◌ {A = Option Text × Bool × Text} (Some (run_of m).class, m.meta, m.tree.selector) (signature m)
    own = let class : ◌≡◌ {A = Option Text} (Some (run_of m).class) m.class = ap (λ (o : Option Text). Some (unwrap_or o [])) g.named ∙ sym g.named in λ j. (class j, m.meta, m.tree.selector)

    fails : (e : EntryOf Text) → (signature e ≡ signature m → ⊥) → test e ≡ false
    fails e other = by (test e) refl
      where
        by : (b : Bool) → test e ≡ b → b ≡ false
        by true is = absurd (other (sym (its_signature (run_of m).class m.meta m.tree.selector e is) ∙ own))
        by false is = refl

-- one of two tests fails
pub and_fails : (a b : Bool) → b ≡ false → (a && b) ≡ false
and_fails true b h = h
and_fails false b h = refl

-- a method is put in at the end
adds : (i : ImageOf Text) (m : EntryOf Text) (g : IsGoodMethod i m) (front : List (EntryOf Text)) → AllByRecursion (λ e. signature e ≡ signature m → ⊥) front → length front < 200000 → method_added text_eq false (run_of m) m.source m.tree (with_methods i front) ≡ Ok (with_methods i (front ++ m ∷ []))
adds i m g front all few =
    let c = (run_of m).class in
    let s = m.tree.selector in
    let none = absent i m g front all in
    let absent_too : has_method text_eq front c m.meta s ≡ false = ap (λ (o : Option (EntryOf Text)). is_some o) none in
    let kernel : is_kernel_method text_eq front c m.meta s ≡ false = ap (λ o. option_map_or (λ (e : EntryOf Text). e.kernel) o false) none in
    let many : is_one_method_too_many text_eq front c m.meta s ≡ false = and_fails (not (has_method text_eq front c m.meta s)) (nat_le method_limit (length front)) (lt-leb 200000 (length front) few) in
    let causes : first_cause (method_refusals text_eq front (run_of m) s) ≡ None =
    none_holds (method_refusals text_eq front (run_of m) s) (kernel, (many, tt)) in
    let class : ◌≡◌ {A = Option Text} (Some c) m.class = ap (λ (o : Option Text). Some (unwrap_or o [])) g.named ∙ sym g.named in
    let user = sym g.user in
    let entry : entry_in false (run_of m) m.source m.tree ≡ m = λ j. record { class = class j; meta = m.meta; protocol = m.protocol; source = m.source; tree = m.tree; kernel = user j } in
    let put : with_method text_eq false (run_of m) m.source m.tree front ≡ front ++ m ∷ [] =
    ap (λ (b : Bool). if b then map (λ e. if is_method text_eq c m.meta s e then entry_in false (run_of m) m.source m.tree else e) front else front ++ entry_in false (run_of m) m.source m.tree ∷ []) absent_too
    ∙ ap (λ (e : EntryOf Text). front ++ e ∷ []) entry in
    ap (λ o. option_map_or Err o (Ok (with_methods i (with_method text_eq false (run_of m) m.source m.tree front)))) causes ∙ ap (λ (ms : List (EntryOf Text)). Ok (with_methods i ms)) put

-- one method of a run
reads_method : (i : ImageOf Text) (m : EntryOf Text) (front : List (EntryOf Text)) (at_head : Bool) (behind : Text) → IsGoodMethod i m → AllByRecursion (λ e. signature e ≡ signature m → ⊥) front → length front < 200000 → BeginsOtherwise 33 behind → ReadsOn (chunk_text m.source ++ behind) (in_run (with_methods i front) (Some (run_of m)) at_head) behind (in_run (with_methods i (front ++ m ∷ [])) (Some (run_of m)) false)
reads_method i m front at_head behind g all few other =
    reads_chunk m.source [] behind (MethodChunk (run_of m) m.source m.tree) g.stands.no_blank refl other (MethodRead g.stands.some g.spells)
    (sym (ap (result_map_both (goes_on no_places (Some (run_of m))) (λ (e : Cause). e)) (adds i m g front all few)))

-- what stands behind a method does not begin with the mark
behind_method : (r : RunOf Text) (ms : List (EntryOf Text)) (behind : Text) → BeginsOtherwise 33 (methods_text (Some r) ms ++ behind)
behind_method r [] behind = λ e. omega arith
behind_method r (m ∷ ms) behind = by (is_one_run r (run_of m))
  where
    by : (b : Bool) → BeginsOtherwise 33 ((((if b then 10 ∷ 10 ∷ [] else run_end ++ run_start (run_of m)) ++ chunk_text m.source) ++ methods_text (Some (run_of m)) ms) ++ behind)
    by true = λ e. omega arith
    by false = λ e. omega arith

-- still at the head of the file where nothing more was read
abbrev pub still : {X : Type 0} → Bool → List X → Bool
still at_head [] = at_head
still at_head (x ∷ xs) = false

pub not_still : {X : Type 0} (xs : List X) → still false xs ≡ false
not_still [] = refl
not_still (x ∷ xs) = refl

-- methods
pub reads_methods : (before : Option (RunOf Text)) (front ms : List (EntryOf Text)) (i : ImageOf Text) (at_head : Bool) (behind : Text) → AllByRecursion (IsGoodMethod i) ms → HasNoRepeat (map signature (front ++ ms)) → length (front ++ ms) ≤ 200000 →
    ReadsOn (methods_text before ms ++ behind) (in_run (with_methods i front) before at_head) behind (outside (with_methods i (front ++ ms)) (still at_head ms))
reads_methods None front [] i at_head behind all once few = subst (λ (ms : List (EntryOf Text)). ReadsOn behind (outside (with_methods i front) at_head) behind (outside (with_methods i ms) at_head)) (sym (append-nil front)) reads_none
reads_methods (Some q) front [] i at_head behind all once few =
    subst (λ (ms : List (EntryOf Text)). ReadsOn (run_end ++ behind) (in_run (with_methods i front) (Some q) at_head) behind (outside (with_methods i ms) at_head)) (sym (append-nil front)) (reads_end q (with_methods i front) at_head behind)
reads_methods before front (m ∷ ms) i at_head behind all once few =
    let r = run_of m in
    let g = all.0 in
    let word : is_identifier r.class ≡ true = subst (λ (n : Text). is_identifier n ≡ true) (class_of_run i m g) g.word in
    let there : has_class text_eq i.classes r.class ≡ true = subst (λ (n : Text). has_class text_eq i.classes n ≡ true) (class_of_run i m g) g.there in
    let others = fresh signature front m ms once in
    let less : length front < 200000 = omega (arith, few, length-append front (m ∷ ms)) in
    let rest = methods_text (Some r) ms in
    let begin = opens before r (with_methods i front) at_head (chunk_text m.source ++ (rest ++ behind)) word there in
    let one = reads_method i m front begin.0 (rest ++ behind) g others less (behind_method r ms behind) in
    let assoc = append_assoc front (m ∷ []) ms in
    let more = reads_methods (Some r) (front ++ m ∷ []) ms i false behind all.1 (subst (λ (es : List (EntryOf Text)). HasNoRepeat (map signature es)) (sym assoc) once) (subst (λ (es : List (EntryOf Text)). length es ≤ 200000) (sym assoc) few) in
    let both = reads_further begin.1 (reads_further one more) in
    let text : methods_text before (m ∷ ms) ++ behind ≡ method_opening before r ++ (chunk_text m.source ++ (rest ++ behind)) =
    append_assoc (method_opening before r ++ chunk_text m.source) rest behind ∙ append_assoc (method_opening before r) (chunk_text m.source) (rest ++ behind) in
    subst (λ (s : Text). ReadsOn s (in_run (with_methods i front) before at_head) behind (outside (with_methods i (front ++ m ∷ ms)) false)) (sym text)
    (subst (λ (f : Filing). ReadsOn (method_opening before r ++ (chunk_text m.source ++ (rest ++ behind))) (in_run (with_methods i front) before at_head) behind f) (λ j. outside (with_methods i (assoc j)) (not_still ms j)) both)
