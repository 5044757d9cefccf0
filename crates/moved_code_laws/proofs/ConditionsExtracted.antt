-- Where the conditions of `extractMethod` hold, its part is an expression or statements that may become a method.
use Rattle.std.proofs.Common.{◌≡◌, ℕ, List, Option, Some, None, sym, ap, ◌∙◌, subst}
use Rattle.std.specs.Prelude.{Bool, true, false, option_and_then, option_map}
use Rattle.std.specs.Option.{option_map_or}
use Rattle.rb_base.specs.Names.{text_eq}
use Rattle.tree_model.specs.Tree.{TreeOf, MethodOf}
use Rattle.tree_model.specs.Path.{part_in}
use Rattle.image_model.specs.Image.{EntryOf, ImageOf}
use Rattle.run_model.specs.Values.{Name}
use Rattle.unfolded_calls.proofs.Running.{none-some, some-same}
use Rattle.command_model.specs.Asked.{text_asked}
use Rattle.command_model.specs.CodeAllowed.{MayExtractMethod}
use Rattle.command_model.specs.Commands.{ExtractMethod}
use Rattle.command_model.specs.Parts.{Part, Expression, Run}
use Rattle.command_model.specs.Places.{users_method}
use Rattle.command_model.specs.PartConditions.{is_part, has_no_return, is_value_unused, assigns_no_outer, are_temporaries_steady}
use Rattle.command_model.specs.CodeEffects.{part_at}
use Rattle.moved_code_laws.specs.WellWritten.{IsWellWritten}
use Rattle.moved_code_laws.proofs.Targets.{test-there}
use Rattle.moved_code_laws.proofs.UsersThere.{UsersMethod, users-there}
use Rattle.moved_code_laws.proofs.InlinedHere.{no-primitive}
use Rattle.moved_code_laws.proofs.ExtractedHere.{Taking}
use Rattle.moved_code_laws.proofs.RunTaken.{TakingRun}

module _ (i : ImageOf Name) (c : Name) (meta : Bool) (s : Name) (from to : ℕ) where
  -- the part is one of the user's method
  pub part-there : (x : EntryOf Name × Part) → part_at text_asked i c meta s from to ≡ Some x → users_method text_eq i c meta s ≡ Some x.0
  part-there x = by (users_method text_eq i c meta s)
    where
      by-part : (m : EntryOf Name) (o : Option Part) → option_map (λ p. (m, p)) o ≡ Some x → m ≡ x.0
      by-part m None e = none-some e
      by-part m (Some p) e = ap (λ (y : EntryOf Name × Part). y.0) (some-same e)

      by : (o : Option (EntryOf Name)) → option_and_then (λ (m : EntryOf Name). option_map (λ p. (m, p)) (text_asked.part_of m.source from to)) o ≡ Some x → o ≡ Some x.0
      by None e = none-some e
      by (Some m) e = ap Some (by-part m (text_asked.part_of m.source from to) e)

  module _ (sound : IsWellWritten i) (t : Name) (hold : MayExtractMethod text_asked i (ExtractMethod c meta s from to t) c meta s from to t) where
    -- the part
    pub part : (x : EntryOf Name × Part) × (part_at text_asked i c meta s from to ≡ Some x) × (is_part text_asked x.0.tree x.1 ≡ true)
    part = test-there (λ (e : EntryOf Name × Part). is_part text_asked e.0.tree e.1) (part_at text_asked i c meta s from to) hold.part_is

    found : users_method text_eq i c meta s ≡ Some part.0.0
    found = part-there part.0 part.1

    mine : UsersMethod i c meta part.0.0
    mine = users-there i sound c meta s part.0.0 found

    -- its method is no primitive
    pub plain : part.0.0.tree.primitive ≡ None
    plain = no-primitive part.0.0.tree.primitive part.0.0.tree.body.temporaries part.0.0.tree.body.statements mine.formed.primitive

    -- what a condition says of it
    of-part : (p : Part) → part.0.1 ≡ p → (test : MethodOf Name → Part → Bool) → option_map_or (λ (e : EntryOf Name × Part). test e.0.tree e.1) (part_at text_asked i c meta s from to) false ≡ true → test part.0.0.tree p ≡ true
    of-part p is test h = subst (λ q. test part.0.0.tree q ≡ true) is (sym (ap (λ o. option_map_or (λ (e : EntryOf Name × Part). test e.0.tree e.1) o false) part.1) ∙ h)

    -- where it is an expression
    module _ (path : List ℕ) (is : part.0.1 ≡ Expression path) where
      fits : is_part text_asked part.0.0.tree (Expression path) ≡ true
      fits = subst (λ p. is_part text_asked part.0.0.tree p ≡ true) is part.2

      pub node : (u : TreeOf Name) × (part_in part.0.0.tree.body path ≡ Some u)
      node = let at = test-there _ (part_in part.0.0.tree.body path) fits in (at.0, at.1)

      pub taking : Taking i c meta s t part.0.0 path node.0
      taking = record {
        user = hold.user_class;
        found = found;
        mine = mine;
        there = node.1;
        is_part = fits;
        no_return = of-part (Expression path) is has_no_return hold.no_return;
        fresh = hold.fresh_selector part.0 part.1;
        assigns = of-part (Expression path) is (assigns_no_outer text_asked) hold.assigns_no_outer;
        temporaries = of-part (Expression path) is (are_temporaries_steady text_asked) hold.steady_temporaries;
      }

    -- where it is statements
    pub taking_run : (path : List ℕ) (first n : ℕ) → part.0.1 ≡ Run path first n → TakingRun i c meta s t part.0.0 path first n
    taking_run path first n is = record {
      user = hold.user_class;
      found = found;
      mine = mine;
      no_return = of-part (Run path first n) is has_no_return hold.no_return;
      unused = of-part (Run path first n) is is_value_unused hold.unused_value;
      fresh = hold.fresh_selector part.0 part.1;
      assigns = of-part (Run path first n) is (assigns_no_outer text_asked) hold.assigns_no_outer;
      temporaries = of-part (Run path first n) is (are_temporaries_steady text_asked) hold.steady_temporaries;
    }
