-- What the reader can still refuse in a file-out of which each chunk stays.
use Rattle.std.proofs.Common.{◌≡◌, Bool, true, false, List, [], ◌∷◌, Option, Some, None, Result, Ok, Err, refl, sym, ap, subst, ◌∙◌}
use Rattle.std.specs.Prelude.{if◌then◌else◌}
use Rattle.std.specs.List.{AllByRecursion}
use Rattle.std.specs.Option.{option_map_or}
use Rattle.std.specs.Result.{result_map_both}
use Rattle.rb_base.specs.Names.{text_eq}
use Rattle.token_model.specs.declared.kind.Dialect.TheVariants.{Second}
use Rattle.tree_model.specs.Tree.{SequenceOf}
use Rattle.chunk_format.specs.Left.{Left, start_of}
use Rattle.chunk_format.specs.Chunks as chunks
use Rattle.chunk_format.specs.Chunks.{Piece, Takes as TakesPiece, HasChunks, First}
use Rattle.chunk_format.specs.Source.{IsSource}
use Rattle.chunk_format.specs.declared.chunk_iter.Unended.{Unended as NoEnd}
use Rattle.chunk_format.proofs.Doubles.{doubled_one}
use Rattle.grammar_model.specs.Spelling.{SpellsDoIt}
use Rattle.grammar_model.proofs.Texts.{no_fault_DoIt, one_SpellsDoIt}
use Rattle.image_model.specs.Image.{DoItOf, ImageOf}
use Rattle.file_model.specs.Causes.{Cause, Syntax, Condition, Refusal, first_cause, unless}
use Rattle.file_model.specs.Changes.{ChangeOf, Define, DefineAt, Comment, SetClassSide, RemoveMethod, RemoveClass, RunOf}
use Rattle.file_model.specs.Refusals.{definition_refusals, comment_refusals, class_side_refusals, removal_refusals, class_removal_refusals, run_refusals, method_refusals}
use Rattle.file_model.specs.Applied.{with_definition, with_class_side, changed, method_added}
use Rattle.file_model.specs.Filing.{Text, Filing, begun, Item, form_taken, taken}
use Rattle.file_model.specs.Forms.{Form, Evaluates, Changes, Opens, OpensAt, Settles, Refuses, form_of, Replacement, replacement_in}
use Rattle.file_model.specs.Reading.{IsItem, Empty, DoItRead, ReplacementRead, ReplacementFault, DoItFault, MethodRead, MethodFault, TakesAll, Taken, Refused, HasRefusal}
use Rattle.import_model.specs.Steps.{Next, Outside, Made, kept, Imports}
use Rattle.import_model.proofs.Kept.{next_in, takes_stay}
use Rattle.import_model.proofs.Unique.{Takes-same, taken_not_over, over_not_cut, taken_not_cut, Imports-same}
use Rattle.import_model.specs.Imported.{IsImported}
use Rattle.import_laws.specs.Accepted as accepted
use Rattle.import_laws.specs.Accepted.{depends_on_image, IsChunkOf, Later, IsLeft, OfImage, OfMethod, OfReplacement, IsLeftAt}
use Rattle.import_laws.proofs.Sources.{doit_next, next_of, Spelling}
use Rattle.import_laws.proofs.Steps.{Plain, BlankOutside, RunEnds, InMethods, PlainDoIt}
use Rattle.import_laws.proofs.Stays as stay
use Rattle.import_laws.proofs.Stays.{AllStay, plain_imports, stays}

-- the causes of conditions all depend on the image
abbrev AllDepend : List Condition → Type 0
AllDepend cs = AllByRecursion (λ c. depends_on_image c.cause ≡ true) cs

first_depends : (cs : List Condition) (cause : Cause) → AllDepend cs → first_cause cs ≡ Some cause → depends_on_image cause ≡ true
first_depends [] cause all e = absurd (cc)
first_depends (c ∷ cs) cause all e = by c.holds e (first_depends cs cause all.1)
  where
    by : (b : Bool) → (if b then Some c.cause else first_cause cs) ≡ Some cause → (first_cause cs ≡ Some cause → depends_on_image cause ≡ true) → depends_on_image cause ≡ true
    by true f more = let same : c.cause ≡ cause = cc in subst (λ (x : Cause). depends_on_image x ≡ true) same all.0
    by false f more = more f

-- what is refused by such conditions
unless_depends : {X : Type 0} (cs : List Condition) (x : X) (cause : Cause) → AllDepend cs → ◌≡◌ {A = Result X Cause} (Err cause) (unless cs x) → depends_on_image cause ≡ true
unless_depends {X} cs x cause all e = by (first_cause cs) refl e
  where
    by : (o : Option Cause) → first_cause cs ≡ o → ◌≡◌ {A = Result X Cause} (Err cause) (option_map_or Err o (Ok x)) → depends_on_image cause ≡ true
    by None f g = absurd (cc)
    by (Some k) f g = let same : k ≡ cause = cc in first_depends cs cause all (f ∙ ap Some same)

change_depends : (c : ChangeOf Text) (i : ImageOf Text) (cause : Cause) → ◌≡◌ {A = Result (ImageOf Text) Cause} (Err cause) (changed text_eq false c i) → depends_on_image cause ≡ true
change_depends (Define d) i cause e = unless_depends (definition_refusals text_eq i.classes d (with_definition text_eq false d i.classes)) _ cause (refl, (refl, (refl, (refl, (refl, tt))))) e
change_depends (DefineAt d k) i cause e = unless_depends (definition_refusals text_eq i.classes d (with_definition text_eq false d i.classes)) _ cause (refl, (refl, (refl, (refl, (refl, tt))))) e
change_depends (Comment n t) i cause e = unless_depends (comment_refusals text_eq i.classes n) _ cause (refl, (refl, tt)) e
change_depends (SetClassSide n ns) i cause e = unless_depends (class_side_refusals text_eq i.classes n ns (with_class_side text_eq n ns i.classes)) _ cause (refl, (refl, (refl, tt))) e
change_depends (RemoveMethod c meta s) i cause e = unless_depends (removal_refusals text_eq i c meta s) _ cause (refl, (refl, tt)) e
change_depends (RemoveClass n) i cause e = unless_depends (class_removal_refusals text_eq i.classes n) _ cause (refl, (refl, (refl, tt))) e

-- a cause that a result has
cause_of_map : {X Y : Type 0} (f : X → Y) (r : Result X Cause) (cause : Cause) → ◌≡◌ {A = Result Y Cause} (Err cause) (result_map_both f (λ (c : Cause). c) r) → ◌≡◌ {A = Result X Cause} (Err cause) r
cause_of_map f (Ok x) cause e = absurd (cc)
cause_of_map f (Err k) cause e = cc

module _ (f : Filing) (cause : Cause) where
  -- a do-it that is refused though it says something
  form_left : (d : DoItOf Text) (form : Form) (next : Next) → next_of form ≡ Some next → ◌≡◌ {A = Result Filing Cause} (Err cause) (form_taken false f d form) → depends_on_image cause ≡ true
  form_left d Evaluates next n e = absurd (cc)
  form_left d (Changes c) next n e = change_depends c f.image cause (cause_of_map _ (changed text_eq false c f.image) cause e)
  form_left d (Opens r) next n e = unless_depends (run_refusals text_eq f.image.classes r) _ cause (refl, tt) e
  form_left d (OpensAt r k) next n e = unless_depends (run_refusals text_eq f.image.classes r) _ cause (refl, tt) e
  form_left d Settles next n e = absurd (cc)
  form_left d (Refuses k) next n e = absurd (cc)

  -- a chunk that stays and is refused
  item_left : (source body : Text) (now next : Next) (run : Option (RunOf Text)) (x : Item) → Plain body now next → now ≡ next_in run → IsSource body source → IsItem Second false run source x
      → ◌≡◌ {A = Result Filing Cause} (Err cause) (taken Second false f x) → IsLeft source cause
  item_left source body now next run x plain n is Empty e = absurd (cc)
  item_left source body now next run x plain n is (DoItRead {b} some spells none) e = by now next plain n
    where
      by : (k l : Next) → Plain body k l → k ≡ Outside → IsLeft source cause
      by k l (BlankOutside empty) m = absurd (some (doubled_one 33 source [] (is ∙ sym empty)))
      by k l (RunEnds empty) m = absurd (some (doubled_one 33 source [] (is ∙ sym empty)))
      by k l (InMethods other more) m = absurd (cc)
      by k l (PlainDoIt {source = text} {b = c} {next = z} other more spelled says) m =
          let same : text ≡ source = doubled_one 33 text source (other ∙ sym is) in
          let trees : c ≡ b = one_SpellsDoIt Second source c b (subst (λ (t : Text). SpellsDoIt Second t c) same spelled) spells in
          let form : next_of (form_of Second false b) ≡ Some z = ap (λ (o : Option Replacement). doit_next o (form_of Second false b)) (sym none) ∙ ap (λ (t : SequenceOf Text). doit_next (replacement_in t) (form_of Second false t)) (sym trees) ∙ says in
          OfImage (form_left (record { source = source; body = b }) (form_of Second false b) z form e)
  item_left source body now next run x plain n is (ReplacementRead some spells states other) e = OfReplacement spells states
  item_left source body now next run x plain n is (ReplacementFault some spells states wrong) e = OfReplacement spells states
  item_left source body now next run x plain n is (DoItFault {fault} some wrong) e = by now next plain n
    where
      by : (k l : Next) → Plain body k l → k ≡ Outside → IsLeft source cause
      by k l (BlankOutside empty) m = absurd (some (doubled_one 33 source [] (is ∙ sym empty)))
      by k l (RunEnds empty) m = absurd (some (doubled_one 33 source [] (is ∙ sym empty)))
      by k l (InMethods other more) m = absurd (cc)
      by k l (PlainDoIt {source = text} {b = c} other more spelled says) m =
          let same : text ≡ source = doubled_one 33 text source (other ∙ sym is) in
          absurd (no_fault_DoIt Second source c fault (subst (λ (t : Text). SpellsDoIt Second t c) same spelled) wrong)
  item_left source body now next run x plain n is (MethodRead {run = r} {m} some spells) e = OfImage (unless_depends (method_refusals text_eq f.image.methods r m.selector) _ cause (refl, (refl, tt)) (cause_of_map _ (method_added text_eq false r source m f.image) cause e))
  item_left source body now next run x plain n is (MethodFault {fault} some wrong) e =
      let same : Syntax fault ≡ cause = cc in subst (λ (c : Cause). IsLeft source c) same (OfMethod wrong)

-- what the next chunk is, if something was made
abbrev next_made : Result Made Cause → Next → Next
next_made (Ok m) other = m.next
next_made (Err cause) other = other

-- the next chunk is the same
one_next : (p : Piece) (n m : Next) → kept p n ≡ kept p m → n ≡ m
one_next p n m e = ap (λ r. next_made r n) e

-- a refusal of what is left
later : (left new : Left) (q : Piece) (r : Refusal) → TakesPiece left q new → IsLeftAt new r → IsLeftAt left r
later left new q r t h = record { chunk = h.chunk; among = Later t h.among; source = h.source; is_source = h.is_source; cause = h.cause; why = h.why; refusal = h.refusal }

left_at : (f : Filing) (now : Next) (left : Left) (ps : List Piece) (end : Option NoEnd) (r : Refusal) → now ≡ next_in f.run → AllStay now left → HasChunks left ps end → TakesAll Second false f ps end (Err r) → IsLeftAt left r
left_at f now left ps end r n (stay.Over over e) (First {new} {p} t h) takes = absurd (taken_not_over left new p t over)
left_at f now left ps end r n (stay.Over over e) (chunks.Over other) x = elim x [ ]
left_at f now left ps end r n (stay.Over over e) (chunks.Refused {e = k} cut) takes = absurd (over_not_cut left k over cut)
left_at f now left ps end r n (stay.Kept {new} {p} t plain more) (chunks.Over over) takes = absurd (taken_not_over left new p t over)
left_at f now left ps end r n (stay.Kept {new} {p} t plain more) (chunks.Refused {e = k} cut) takes = absurd (taken_not_cut left new p k t cut)
left_at f now left ps end r n (stay.Kept {next} {new} {p} t plain more) (First {new = other} {p = q} {ps = rest} u h) (Taken {g} a others) =
    let both = Takes-same left new other p q t u in
    let piece : Plain q.body now next = subst (λ (x : Piece). Plain x.body now next) both.0 plain in
    let imports = takes_stay q f g a in
    let kept_same = Imports-same q now (kept q next) (kept q (next_in g.run)) (plain_imports q now next piece) (subst (λ (x : Next). Imports q x (kept q (next_in g.run))) (sym n) imports) in
    let same : next ≡ next_in g.run = one_next q next (next_in g.run) kept_same in
    later left other q r u (left_at g next other rest end r same (subst (λ (x : Left). AllStay next x) both.1 more) h others)
left_at f now left ps end r n (stay.Kept {next} {new} {p} t plain more) (First {new = other} {p = q} {ps = rest} u h) (Refused {cause} a) =
    let both = Takes-same left new other p q t u in
    let piece : Plain q.body now next = subst (λ (x : Piece). Plain x.body now next) both.0 plain in
    record {
      chunk = q;
      among = accepted.First u;
      source = a.source;
      is_source = a.is_source;
      cause = cause;
      why = item_left f cause a.source q.body now next f.run a.item piece n a.is_source a.is_item a.result;
      refusal = refl;
    }

-- what was imported
pub left_to_the_reader : Spelling → (prelude text out : Text) (r : Refusal) → IsImported text (Ok out) → HasRefusal Second prelude out r → IsLeftAt (start_of out) r
left_to_the_reader law prelude text out r is h = left_at (begun h.kernel) Outside (start_of out) h.reads.pieces h.reads.end r refl (stays law text out is) h.reads.chunks h.reads.takes
