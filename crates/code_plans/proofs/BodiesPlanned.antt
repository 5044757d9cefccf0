-- The command by which a message becomes the body of the method that it finds.
use Rattle.std.proofs.Common.{◌≡◌, ℕ, ◌<◌, List, [], length, Option, None, Some, option_map, refl, sym, ap, subst, ◌∙◌}
use Rattle.std.specs.Prelude.{nat_eq, unwrap_or}
use Rattle.std.specs.Option.{option_and_then}
use Rattle.tree_model.specs.Tree.{MethodOf}
use Rattle.tree_model.specs.AllNames.{MethodNames}
use Rattle.tree_model.specs.Normal.{normal}
use Rattle.st_tree.specs.View.{method_of}
use Rattle.st_tree.specs.declared.tree.Method.{Method}
use Rattle.image_model.specs.Image.{EntryOf, ImageOf}
use Rattle.image_model.specs.ImageNames.{OptionNames, EntryNames}
use Rattle.class_table.specs.declared.record.Place.{Place}
use Rattle.class_table.specs.Slots.{Slots}
use Rattle.class_table.specs.Valid.{IsOrderly}
use Rattle.class_table.specs.View.{number_image}
use Rattle.change_set.specs.declared.change.Change.{Change}
use Rattle.command_model.specs.CodeEffects.{part_at, target_of}
use Rattle.command_model.specs.Commands.{CommandOf, InlineMethod}
use Rattle.command_model.specs.Effects.{effect}
use Rattle.command_model.specs.Inlined.{tree_inlined}
use Rattle.command_model.specs.Numbers.{number_writing}
use Rattle.command_model.specs.Parts.{Part}
use Rattle.command_model.specs.Places.{SendOf, sent_by, users_method}
use Rattle.command_model.specs.Sequences.{with_tree}
use Rattle.commands.specs.Views.{asked_by}
use Rattle.commands.specs.declared.command.MethodPart.{MethodPart}
use Rattle.method_plans.proofs.Leads.{Leads, leads-nowhere, leads-plan}
use Rattle.plans.specs.Plan.{IsPlan}
use Rattle.temporary_plans.specs.Retold.{Retells}
use Rattle.code_plans.specs.Inlined.{inlined_at}
use Rattle.code_plans.proofs.BodiesKnown.{part-known, inlined-known}

-- what a method in normal form is made of
of-normal : (n : MethodOf ℕ) (q : Option (MethodOf ℕ)) → Some n ≡ option_map normal q → (t : MethodOf ℕ) × (q ≡ Some t) × (n ≡ normal t)
of-normal n None h = absurd (cc)
of-normal n (Some t) h = let same : n ≡ normal t = cc in (t, refl, same)

no-normal : (q : Option (MethodOf ℕ)) → None ≡ option_map normal q → q ≡ None
no-normal None h = refl
no-normal (Some t) h = absurd (cc)

module _ (s : Slots) (o : IsOrderly s) (p : MethodPart) where
  abbrev command : CommandOf ℕ
  command = InlineMethod p.method.class p.method.meta p.method.selector p.from p.to

  -- the user's method and the part of it
  abbrev own : Option (EntryOf ℕ × Part)
  own = part_at (asked_by s.names) (number_image s) p.method.class p.method.meta p.method.selector p.from p.to

  -- the tree that the command gives it
  abbrev put : EntryOf ℕ × Part → Option (MethodOf ℕ)
  put e = inlined_at s p.method.class p.method.meta e.0.tree e.1

  -- the image with a tree, if there is one
  abbrev given : Option (MethodOf ℕ) → ImageOf ℕ
  given q = unwrap_or (option_map (λ tree. with_tree nat_eq (number_writing s.names) p.method.class p.method.meta p.method.selector tree (number_image s)) q) (number_image s)

  -- the message that a part is, with its method
  abbrev sent_in : EntryOf ℕ × Part → Option (EntryOf ℕ × SendOf ℕ)
  sent_in e = option_map (λ (x : SendOf ℕ). (e.0, x)) (sent_by e.0.tree e.1)

  abbrev parted : EntryOf ℕ → Option (EntryOf ℕ × Part)
  parted m = option_map (λ (x : Part). (m, x)) ((asked_by s.names).part_of m.source p.from p.to)

  abbrev put_for_sent : EntryOf ℕ → EntryOf ℕ × SendOf ℕ → Option (MethodOf ℕ)
  put_for_sent m e = option_and_then (λ (target : EntryOf ℕ). tree_inlined (asked_by s.names) m.tree e.1 target.tree) (target_of (asked_by s.names) (number_image s) p.method.class p.method.meta e.1)

  -- the method is that of the part
  by-part : (q : Option (EntryOf ℕ)) → option_and_then (λ (m : EntryOf ℕ). option_and_then (put_for_sent m) (option_and_then sent_in (option_and_then parted q))) q ≡ option_and_then put (option_and_then parted q)
  by-part None = refl
  by-part (Some m) = part ((asked_by s.names).part_of m.source p.from p.to)
    where
      sent : (r : Option (SendOf ℕ)) → option_and_then (put_for_sent m) (option_map (λ (x : SendOf ℕ). (m, x)) r)
          ≡ option_and_then (λ (e : SendOf ℕ). option_and_then (λ (target : EntryOf ℕ). tree_inlined (asked_by s.names) m.tree e target.tree) (target_of (asked_by s.names) (number_image s) p.method.class p.method.meta e)) r
      sent None = refl
      sent (Some e) = refl

      part : (r : Option Part) → option_and_then (put_for_sent m) (option_and_then sent_in (option_map (λ (x : Part). (m, x)) r)) ≡ option_and_then put (option_map (λ (x : Part). (m, x)) r)
      part None = refl
      part (Some x) = sent (sent_by m.tree x)

  effect-is : effect (asked_by s.names) (number_writing s.names) command (number_image s) ≡ given (option_and_then put own)
  effect-is = ap given (by-part (users_method nat_eq (number_image s) p.method.class p.method.meta p.method.selector))

  -- no tree is given
  nothing : (cs : List Change) (ps : List Place) → cs ≡ [] → ps ≡ [] → option_and_then put own ≡ None → IsPlan s command cs ps
  nothing cs ps a b none =
      let leads : Leads s [] [] s = leads-nowhere s o in
      subst (λ (xs : List Change). IsPlan s command xs ps) (sym a)
      (subst (λ (xs : List Place). IsPlan s command [] xs) (sym b) (leads-plan s command [] [] s leads refl (sym (effect-is ∙ ap given none))))

  -- the user has no such method, or no such part of it
  pub nobody : (cs : List Change) (ps : List Place) → cs ≡ [] → ps ≡ [] → None ≡ own → IsPlan s command cs ps
  nobody cs ps a b none = nothing cs ps a b (ap (option_and_then put) (sym none))

  module _ (e : EntryOf ℕ × Part) (there : Some e ≡ own) where
    by-own : put e ≡ option_and_then put own
    by-own = ap (option_and_then put) there

    -- the part is no message, or nothing stands in place of it
    pub nowhere : (cs : List Change) (ps : List Place) → cs ≡ [] → ps ≡ [] → None ≡ option_map normal (put e) → IsPlan s command cs ps
    nowhere cs ps a b none = nothing cs ps a b (sym by-own ∙ no-normal (put e) none)

    module _ (made : Method) (is : Some (method_of made) ≡ option_map normal (put e)) where
      -- the names of what is made are in the table
      pub made-known : MethodNames (λ n. n < length s.names) (method_of made)
      made-known =
          let h : EntryNames (λ n. n < length s.names) e.0 =
          subst (OptionNames (λ (x : EntryOf ℕ × Part). EntryNames (λ n. n < length s.names) x.0)) (sym there) (part-known s o p.method.class p.method.meta p.method.selector p.from p.to) in
          subst (OptionNames (MethodNames (λ n. n < length s.names))) (sym is) (inlined-known s o p.method.class p.method.meta e.0.tree e.1 h.tree)

      -- it is the tree that the command gives
      pub told : Retells s p.method made command
      told =
          let made_of = of-normal (method_of made) (put e) is in
          record { anew = made_of.0; is_normal = made_of.2; effect = effect-is ∙ ap given (sym by-own ∙ made_of.1) }
