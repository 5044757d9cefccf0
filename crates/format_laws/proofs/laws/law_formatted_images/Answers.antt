use Rattle.std.proofs.Common.{◌≡◌, ℕ, sym, ap, ◌∙◌, subst}
use Rattle.std.specs.Prelude.{Bool, false, ◌≢◌, ◌≤◌, if◌then◌else◌}
use Rattle.token_model.specs.declared.kind.Dialect.TheVariants.{Second}
use Rattle.grammar_model.specs.Spelling.{SpellsDoIt, SpellsMethod}
use Rattle.image_model.specs.Image.{EntryOf, DoItOf, ImageOf, plus}
use Rattle.image_model.specs.Words.{text_words}
use Rattle.image_model.specs.Valid.{HasNoRepeat, HasClass, IsUserMethod, IsUserDoIt, IsValid, IsFileable}
use Rattle.image_model.proofs.Lists.{all-both}
use Rattle.text_model.specs.Whole.{canonical_method, canonical_doit}
use Rattle.run_model.specs.Runs.{run}
use Rattle.file_model.specs.Filing.{Text}
use Rattle.file_model.specs.Fileable.{MayStand, IsDoItChunk, reading_of}
use Rattle.file_rereading.specs.Rereading.{with_heads}
use Rattle.effect_laws.proofs.Blanks.{may_stand, method_begins}
use Rattle.canonical_image.specs.Formatted.{formatted_entry, formatted_doit, formatted}
use Rattle.format_laws.specs.Empty.{empty_code, HasNoEmptyDoIt}
use Rattle.format_laws.proofs.Beginning.{doit_begins_well}
use Rattle.format_laws.proofs.Written.{all-written, length-kept, twice, bare-same, bare-heads, bare-further, signatures-same, kernel-kept, front-kept}
use Rattle.format_laws.proofs.laws.law_formatted_images.Goals as goal

pub returns : goal.returns
returns k = record {
  valid = valid;
  fileable = fileable;
  first = λ kernel image valid first. record { classes = first.classes; methods = front-kept image.methods kernel.methods valid.kernel_methods first.methods };
  run = λ image n. sym (k.law_bare_runs.ensures.run (formatted image) n) ∙ ap (λ i. run i n) (bare-same image) ∙ k.law_bare_runs.ensures.run image n;
  run_again = λ image n. sym (k.law_bare_runs.ensures.run (with_heads (formatted image)) n) ∙ ap (λ i. run i n) (bare-heads image) ∙ k.law_bare_runs.ensures.run image n;
  run_further = λ image e n. sym (k.law_bare_runs.ensures.run (plus (formatted image) e) n) ∙ ap (λ i. run i n) (bare-further image e) ∙ k.law_bare_runs.ensures.run (plus image e) n;
  run_further_again = λ image e n. sym (k.law_bare_runs.ensures.run (plus (with_heads (formatted image)) e) n) ∙ ap (λ i. run i n) (bare-further image e) ∙ k.law_bare_runs.ensures.run (plus image e) n;
  twice = twice;
}
  where
    method : (kernel : ImageOf Text) (m : EntryOf Text) → (m.kernel ≡ false → IsUserMethod (reading_of Second kernel) m) → m.kernel ≡ false → IsUserMethod (reading_of Second kernel) (formatted_entry m)
    method kernel m h e =
        let u = h e in
        record {
          spells = subst (λ (b : Bool). SpellsMethod Second false (if b then m.source else canonical_method m.tree) m.tree) (sym e) (k.spells_the_tree_again.ensures.method Second false m.source m.tree u.spells);
          normal = u.normal;
          height = u.height;
          no_primitive = u.no_primitive;
        }

    doit : (kernel : ImageOf Text) (d : DoItOf Text) → IsUserDoIt (reading_of Second kernel) d → IsUserDoIt (reading_of Second kernel) (formatted_doit d)
    doit kernel d u = record { spells = k.spells_the_tree_again.ensures.doit Second d.source d.body u.spells; height = u.height }

    valid : (kernel image : ImageOf Text) → IsValid text_words (reading_of Second kernel) image → IsValid text_words (reading_of Second kernel) (formatted image)
    valid kernel image v = record {
      class_names_distinct = v.class_names_distinct;
      superclasses_before = v.superclasses_before;
      only_object_is_root = v.only_object_is_root;
      names_may_be_given = v.names_may_be_given;
      instance_variables_once = v.instance_variables_once;
      class_side_variables_once = v.class_side_variables_once;
      class_variables_once = v.class_variables_once;
      methods_once = subst HasNoRepeat (sym (signatures-same image.methods)) v.methods_once;
      method_classes_there = all-written (HasClass image.classes) (HasClass image.classes) formatted_entry (λ m h. h) image.methods v.method_classes_there;
      user_methods = all-written _ _ formatted_entry (method kernel) image.methods v.user_methods;
      doits = all-written _ _ formatted_doit (doit kernel) image.doits v.doits;
      kernel_classes = v.kernel_classes;
      kernel_methods = kernel-kept image.methods ∙ v.kernel_methods;
    }

    source_stands : (kernel : ImageOf Text) (m : EntryOf Text) → (m.kernel ≡ false → IsUserMethod (reading_of Second kernel) m) → m.kernel ≡ false → MayStand (formatted_entry m).source
    source_stands kernel m h e =
        let u = h e in
        subst (λ (b : Bool). MayStand (if b then m.source else canonical_method m.tree)) (sym e)
        (may_stand (canonical_method m.tree) (method_begins m.tree ((k.tells_which_trees_have_a_text.ensures.method false m.tree).0 (m.source, u.spells))))

    doit_stands : (kernel : ImageOf Text) (d : DoItOf Text) → (d.body ≢ empty_code) × IsUserDoIt (reading_of Second kernel) d → MayStand (canonical_doit d.body)
    doit_stands kernel d h = may_stand (canonical_doit d.body) (doit_begins_well d.body ((k.tells_which_trees_have_a_text.ensures.doit d.body).0 (d.source, h.1.spells)) h.0)

    chunk : (kernel : ImageOf Text) (d : DoItOf Text) → IsUserDoIt (reading_of Second kernel) d × IsDoItChunk Second d.source → IsDoItChunk Second (canonical_doit d.body)
    chunk kernel d h =
        let c = h.1 in
        let same = k.spells_doit_or_has_fault.ensures.one_tree Second d.source c.body d.body c.spells h.0.spells in
        record { body = c.body; spells = subst (λ (t : Text). SpellsDoIt Second t c.body) (ap canonical_doit same) (k.spells_the_tree_again.ensures.doit Second d.source c.body c.spells); form = c.form }

    fileable : (kernel image : ImageOf Text) → HasNoEmptyDoIt image → IsValid text_words (reading_of Second kernel) image → IsFileable (reading_of Second kernel) image → IsFileable (reading_of Second kernel) (formatted image)
    fileable kernel image some v f = record {
      method_sources = all-written _ _ formatted_entry (source_stands kernel) image.methods v.user_methods;
      doit_sources = all-written _ _ formatted_doit (doit_stands kernel) image.doits (all-both (λ (d : DoItOf Text). d.body ≢ empty_code) (IsUserDoIt (reading_of Second kernel)) image.doits some v.doits);
      doit_chunks = all-written _ _ formatted_doit (chunk kernel) image.doits (all-both (IsUserDoIt (reading_of Second kernel)) (λ (d : DoItOf Text). IsDoItChunk Second d.source) image.doits v.doits f.doit_chunks);
      heads_within = subst (λ (n : ℕ). image.heads ≤ n) (sym (length-kept formatted_doit image.doits)) f.heads_within;
    }
