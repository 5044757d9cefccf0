-- Do-its are read one after the other, and changes of classes.
use Rattle.std.proofs.Common.{◌≡◌, ◌≢◌, ◌+◌, Bool, true, false, List, [], ◌∷◌, ◌++◌, length, None, Ok, refl, ap, sym, subst, ◌∙◌, arith, append_assoc, append-nil}
use Rattle.std.specs.Prelude.{flat_map, if◌then◌else◌}
use Rattle.std.specs.List.{AllByRecursion}
use Rattle.std.specs.Result.{result_map_both}
use Rattle.rb_base.specs.Names.{text_eq}
use Rattle.token_model.specs.declared.kind.Dialect.TheVariants.{Second}
use Rattle.tree_model.specs.Tree.{SequenceOf}
use Rattle.chunk_format.specs.Blank.{HasNoLeadingBlank}
use Rattle.grammar_model.specs.Spelling.{SpellsDoIt}
use Rattle.grammar_model.proofs.Texts.{one_SpellsDoIt}
use Rattle.image_model.specs.Image.{DoItOf, ImageOf}
use Rattle.file_model.specs.Causes.{Cause}
use Rattle.file_model.specs.Changes.{ChangeOf}
use Rattle.file_model.specs.Forms.{Evaluates, Changes, form_of, replacement_in}
use Rattle.file_model.specs.Applied.{changed}
use Rattle.file_model.specs.Filing.{Text, Filing, DoItChunk, goes_on, form_taken}
use Rattle.file_model.specs.Places.{PlacesOf, no_places, places_after}
use Rattle.file_model.specs.Written.{chunk_text, paragraph, doit_text}
use Rattle.file_model.specs.Reading.{DoItRead}
use Rattle.file_model.specs.Fileable.{MayStand, IsDoItChunk}
use Rattle.file_rereading.proofs.Readings.{outside, with_doits}
use Rattle.file_rereading.proofs.Replacements.{doit_none, changes_none}
use Rattle.file_rereading.proofs.Readings.{ReadsOn, reads_further, reads_none, reads_chunk}

-- one paragraph that is a do-it by the grammar
pub reads_paragraph : (source : Text) (b : SequenceOf Text) (i : ImageOf Text) (at_head : Bool) (g : Filing) (behind : Text) → source ≢ [] → HasNoLeadingBlank source → SpellsDoIt Second source b → replacement_in b ≡ None → Ok g ≡ form_taken false (outside i at_head) (record { source = source; body = b }) (form_of Second false b) → ReadsOn (paragraph source ++ behind) (outside i at_head) behind g
reads_paragraph source b i at_head g behind some begins spells none takes =
    subst (λ (s : Text). ReadsOn s (outside i at_head) behind g) (sym (append_assoc (chunk_text source) (10 ∷ 10 ∷ []) behind))
    (reads_chunk source (10 ∷ 10 ∷ []) behind (DoItChunk source b) begins refl (λ e. omega arith) (DoItRead some spells none) takes)

-- one change
pub reads_change : (source : Text) (b : SequenceOf Text) (c : ChangeOf Text) (i j : ImageOf Text) (at_head : Bool) (behind : Text) → source ≢ [] → HasNoLeadingBlank source → SpellsDoIt Second source b → form_of Second false b ≡ Changes c → places_after text_eq c no_places ≡ no_places → changed text_eq false c i ≡ Ok j → ReadsOn (paragraph source ++ behind) (outside i at_head) behind (outside j false)
reads_change source b c i j at_head behind some begins spells says stays makes =
    let d : DoItOf Text = record { source = source; body = b } in
    let after : form_taken false (outside i at_head) d (form_of Second false b) ≡ Ok (outside j false) =
    ap (form_taken false (outside i at_head) d) says ∙ ap (result_map_both (goes_on (places_after text_eq c no_places) None) (λ (e : Cause). e)) makes
    ∙ ap (λ (places : PlacesOf Text). Ok (goes_on places None j)) stays in
    reads_paragraph source b i at_head (outside j false) behind some begins spells (changes_none Second false b c says) (sym after)

-- a do-it that is read as one
pub record IsGoodDoIt (d : DoItOf Text) : Type 0 where
  pub spells : SpellsDoIt Second d.source d.body
  pub stands : MayStand d.source
  pub chunk : IsDoItChunk Second d.source

-- what it says
says_doit : (d : DoItOf Text) → IsGoodDoIt d → form_of Second false d.body ≡ Evaluates
says_doit d g = ap (form_of Second false) (one_SpellsDoIt Second d.source d.body g.chunk.body g.spells g.chunk.spells) ∙ g.chunk.form

-- one do-it
reads_doit : (d : DoItOf Text) (i : ImageOf Text) (at_head : Bool) (behind : Text) → IsGoodDoIt d → ReadsOn (doit_text d ++ behind) (outside i at_head) behind (outside (with_doits at_head i (d ∷ [])) at_head)
reads_doit d i at_head behind g =
    reads_paragraph d.source d.body i at_head (outside (with_doits at_head i (d ∷ [])) at_head) behind g.stands.some g.stands.no_blank g.spells (doit_none Second false d.body (says_doit d g))
    (sym (ap (form_taken false (outside i at_head) d) (says_doit d g)))

-- do-its behind do-its
with_further : (at_head : Bool) (i : ImageOf Text) (d : DoItOf Text) (ds : List (DoItOf Text)) → with_doits at_head (with_doits at_head i (d ∷ [])) ds ≡ with_doits at_head i (d ∷ ds)
with_further at_head i d ds = λ j. record i { doits = append_assoc i.doits (d ∷ []) ds j; heads = by at_head j }
  where
    by : (b : Bool) → (if b then (if b then i.heads + 1 else i.heads) + length ds else (if b then i.heads + 1 else i.heads)) ≡ (if b then i.heads + length (d ∷ ds) else i.heads)
    by true = omega arith
    by false = refl

with_none : (at_head : Bool) (i : ImageOf Text) → with_doits at_head i [] ≡ i
with_none at_head i = λ j. record i { doits = append-nil i.doits j; heads = by at_head j }
  where
    by : (b : Bool) → (if b then i.heads + 0 else i.heads) ≡ i.heads
    by true = omega arith
    by false = refl

-- do-its
pub reads_doits : (ds : List (DoItOf Text)) (i : ImageOf Text) (at_head : Bool) (behind : Text) → AllByRecursion IsGoodDoIt ds → ReadsOn (flat_map doit_text ds ++ behind) (outside i at_head) behind (outside (with_doits at_head i ds) at_head)
reads_doits [] i at_head behind all = subst (λ (k : ImageOf Text). ReadsOn behind (outside i at_head) behind (outside k at_head)) (sym (with_none at_head i)) reads_none
reads_doits (d ∷ ds) i at_head behind all =
    let rest = flat_map doit_text ds in
    let next = with_doits at_head i (d ∷ []) in
    let one = reads_doit d i at_head (rest ++ behind) all.0 in
    let more = reads_doits ds next at_head behind all.1 in
    let both : ReadsOn (doit_text d ++ (rest ++ behind)) (outside i at_head) behind (outside (with_doits at_head next ds) at_head) = reads_further one more in
    subst (λ (s : Text). ReadsOn s (outside i at_head) behind (outside (with_doits at_head i (d ∷ ds)) at_head)) (sym (append_assoc (doit_text d) rest behind))
    (subst (λ (k : ImageOf Text). ReadsOn (doit_text d ++ (rest ++ behind)) (outside i at_head) behind (outside k at_head)) (with_further at_head i d ds) both)
