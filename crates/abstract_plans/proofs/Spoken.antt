-- Where a change of code is given, the code mentions the variable; so the changes of listed places are all changes of code.
use Rattle.std.proofs.Common.{◌≡◌, ℕ, ◌<◌, List, [], Option, Some, length, refl, sym, ap, subst, ◌∙◌}
use Rattle.std.specs.Prelude.{Contains}
use Rattle.std.specs.List.{AllByRecursion}
use Rattle.std.specs.Option.{option_map_or}
use Rattle.st_tree.specs.View.{method_of, sequence_of}
use Rattle.image_model.specs.ImageNames.{ImageNames}
use Rattle.image_model.specs.Means.{of_instance}
use Rattle.class_table.specs.declared.record.MethodRec.{MethodRec}
use Rattle.class_table.specs.declared.record.DoIt.{DoIt}
use Rattle.class_table.specs.declared.record.Place.{Place}
use Rattle.class_table.specs.declared.record.Place.TheVariants as place
use Rattle.class_table.specs.Slots.{Slots}
use Rattle.class_table.specs.Valid.{IsOrderly}
use Rattle.class_table.specs.View.{entry_of, doit_of, number_image}
use Rattle.change_set.specs.declared.change.Change.{Change}
use Rattle.change_set.specs.Changes.{all_applied, CanApplyAll}
use Rattle.wider_slots.specs.Closed.{FitsIn}
use Rattle.command_model.specs.Numbers.{number_writing}
use Rattle.mentions.specs.Mentions.{code_names, method_names}
use Rattle.reference_index.specs.Mentioned.{Mentioned, IsIndexOf, ListsPlaces, DiffersAtMost, names_at}
use Rattle.renamed_code.specs.Anew.{of_a_variable}
use Rattle.renamed_code_laws.proofs.Spoken.{entry-spoken, doit-spoken}
use Rattle.abstracted_code.specs.declared.abstraction.Abstraction.{Abstraction}
use Rattle.method_plans.proofs.Leads.{Leads}
use Rattle.remade_plans.specs.Remade.{Remaking, image_after, change_at, changes_at, touched}
use Rattle.remade_plans.proofs.RemadeCode.{given-method, given-doit, live-there}
use Rattle.remade_plans.proofs.Whole.{keeps, is-end, remade-can, remade-image, remade-orderly, remade-fit, remade-touched}
use Rattle.abstract_plans.specs.Abstracted.{remaking_of, AreListed}

module _ (s : Slots) (a : Abstraction) where
  abbrev r : Remaking
  r = remaking_of s a

  mentioned : (p : Place) (d : Change) → change_at s r p ≡ Some d → Contains (names_at s p) a.variable
  mentioned (place.Method k) d e =
      let g = given-method s r k d e in
      subst (λ (ns : List ℕ). Contains ns a.variable) (sym (ap (λ (m : Option MethodRec). option_map_or (λ (x : MethodRec). method_names (method_of x.tree)) m []) (live-there s r k g.rec g.live g.there)))
      (entry-spoken s.names (number_writing s.names) (number_image s) a.variable (of_a_variable of_instance a.class a.variable) (entry_of s.classes g.rec) g.changes)
  mentioned (place.DoIt n) d e =
      let g = given-doit s r n d e in
      subst (λ (ns : List ℕ). Contains ns a.variable) (sym (ap (λ (x : Option DoIt). option_map_or (λ (y : DoIt). code_names (sequence_of y.body)) x []) g.there))
      (doit-spoken s.names (number_writing s.names) (number_image s) a.variable (of_a_variable of_instance a.class a.variable) (doit_of g.rec) g.changes)

  -- the slots with other methods and do-its
  abbrev pub with_code : List MethodRec → List DoIt → Slots
  with_code ms ds = record s { methods = ms; doits = ds }

  -- what the changes make of the slots
  pub record Remade (cs : List Change) (ps : List Place) : Type 0 where
    pub methods : List MethodRec
    pub doits : List DoIt
    pub leads : Leads s cs ps (with_code methods doits)
    pub as_many : length methods ≡ length s.methods
    pub image : number_image (with_code methods doits) ≡ image_after s r

  pub remade : (x : Mentioned) (cs : List Change) (ps : List Place) → IsOrderly s → ImageNames (λ n. n < length s.names) (image_after s r) → IsIndexOf s x → AreListed s x a cs ps → Remade cs ps
  remade x cs ps o known index are =
      let places = are.places in
      let listed : (p : Place) (d : Change) → change_at s r p ≡ Some d → Contains places p = λ p d e. (are.lists.members p).1 (((index p).members a.variable).1 (mentioned p d e)) in
      let after : Slots = all_applied s (changes_at s r places) in
      let end : after ≡ with_code after.methods after.doits = is-end s r places o known listed in
      record {
        methods = after.methods;
        doits = after.doits;
        leads = record {
          can = subst (CanApplyAll s) (sym are.changes_are) (remade-can s r places o known listed);
          fit = subst (AllByRecursion (FitsIn s)) (sym are.changes_are) (remade-fit s r places o known listed);
          is = ap (all_applied s) are.changes_are ∙ end;
          orderly = subst IsOrderly end (remade-orderly s r places o known listed);
          touched = subst (λ (t : Slots). DiffersAtMost s t ps) end (subst (DiffersAtMost s after) (sym are.touched_are) (remade-touched s r places o known listed));
        };
        as_many = (keeps s r places o known listed).methods;
        image = ap number_image (sym end) ∙ remade-image s r places o known listed;
      }
