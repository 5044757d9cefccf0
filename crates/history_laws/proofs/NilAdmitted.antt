-- The start expression `nil` is admitted wherever a script is accepted.
use Rattle.std.proofs.Common.{◌≡◌, Bool, true, false, not, ◌||◌, List, [], ◌∷◌, ◌++◌, map, find, None, Result, Ok, Err, refl, sym, ap, ◌∙◌, arith}
use Rattle.std.specs.Prelude.{codes, option_map, if◌then◌else◌}
use Rattle.std.specs.List.{AllByRecursion}
use Rattle.std.specs.Option.{option_map_or}
use Rattle.std.proofs.lemmas.Bool.{false≢true}
use Rattle.rb_base.specs.Names.{text_eq}
use Rattle.token_model.specs.declared.kind.Dialect.TheVariants.{Second}
use Rattle.tree_model.specs.Tree.{var, no_statements, more_statements, SequenceOf}
use Rattle.scope_model.specs.SpecialNames.{is_pseudo_variable}
use Rattle.grammar_model.specs.Spelling.{SpellsDoIt}
use Rattle.image_model.specs.Image.{DoItOf, ImageOf, plus}
use Rattle.image_model.specs.Words.{text_words}
use Rattle.image_model.specs.Means.{VariableKind, of_instance, of_class_side, of_class}
use Rattle.run_model.specs.Values.{Name}
use Rattle.run_model.proofs.Finite.{by_cases}
use Rattle.run_model.proofs.RenamingLemmas.{text-same}
use Rattle.rename_model.specs.CommandWords.{is_good_class_name}
use Rattle.rename_model.specs.ClassRenamed.{canonical}
use Rattle.rename_model.specs.Conditions.{is_user_class, has_variable}
use Rattle.rename_model.specs.VariableRenamed.{doit_after as doit_of_variable}
use Rattle.reread_law.proofs.Again.{doit_exactly, doit_law}
use Rattle.command_model.specs.Asked.{text_asked}
use Rattle.command_model.specs.Commands.{CommandOf, RenameClass, AddClass, RemoveClass, AddInstVar, RenameInstVar, RemoveInstVar, PushUpInstVar, PushDownInstVar, AddClassVar, RenameClassVar, RemoveClassVar, PushUpClassVar, PushDownClassVar, AddClassSideVar, RenameClassSideVar, RemoveClassSideVar, RenameSelector, AddMethod, RemoveMethod, PushUpMethod, PushDownMethod, AbstractInstVar}
use Rattle.command_model.specs.Conditions.{ConditionOf, NoReflection, IsUserClass, HasVariable, ChildOf, MeansSame, Unreached}
use Rattle.command_model.specs.Hierarchy.{superclass_name, receivers}
use Rattle.command_model.specs.Effects.{effect}
use Rattle.command_model.specs.Needs.{needs}
use Rattle.command_model.specs.Judged.{first_false}
use Rattle.command_model.specs.AllHold.{AllHold}
use Rattle.command_model.proofs.Held.{all-hold}
use Rattle.command_model.proofs.EffectsBeside.{effect-beside}
use Rattle.session_model.specs.Actions.{ActionOf, Single, CreateAccessors, ExtractSuperclass, PushUpWithMethods}
use Rattle.session_model.specs.OwnConditions.{first_own_false}
use Rattle.session_model.specs.Scripts.{Request, History, rules, verdict_in}
use Rattle.session_model.specs.Admitted.{Admits, nil_doit}
use Rattle.history_model.proofs.Mapped.{all_made, verdict-made}
use Rattle.history_laws.proofs.JudgedBeside.{made, renaming-plus, steps-plus}
use Rattle.history_laws.proofs.NilUses.{and-false}
use Rattle.history_laws.proofs.NilCode.{last-same}
use Rattle.history_laws.proofs.NilHolds.{SparesNil, none-false, no_reflection-plus}
use Rattle.history_laws.proofs.NilNeeds.{given, code-spares}

-- a name that a class may be given is not `nil`
good-spares : (n : Name) → is_good_class_name n ≡ true → text_eq n (codes "nil") ≡ false
unfolding is_pseudo_variable
good-spares n good = by_cases (text_eq n (codes "nil")) (λ t. absurd (false≢true (sym (ap is_good_class_name (text-same n (codes "nil") t)) ∙ good))) (λ f. f)

-- what conditions of each name spare
each : (f : Name → ConditionOf Name) (ns : List Name) (qs : List (ConditionOf Name)) → ((n : Name) → SparesNil (f n)) → AllByRecursion SparesNil qs → AllByRecursion SparesNil (map f ns ++ qs)
each f [] qs h rest = rest
each f (n ∷ ns) qs h rest = (h n, each f ns qs h rest)

alone : (f : Name → ConditionOf Name) (ns : List Name) → ((n : Name) → SparesNil (f n)) → AllByRecursion SparesNil (map f ns)
alone f [] h = tt
alone f (n ∷ ns) h = (h n, alone f ns h)

module _ (i : ImageOf Name) where
  -- the conditions of a command spare `nil`, where they hold
  spares : (c : CommandOf Name) → AllHold text_asked i c → AllByRecursion SparesNil (needs text_asked i c)
  spares (RenameClass c d) h = (tt, (tt, (tt, (good-spares d h.good_name, tt))))
  spares (AddClass d p under) h = (tt, (tt, (tt, (good-spares d h.good_name, alone (λ s. ChildOf s p) under (λ s. tt)))))
  spares (RemoveClass c) h = (tt, (tt, (tt, (tt, tt))))
  spares (AddInstVar c x) h = (tt, (tt, (tt, (tt, tt))))
  spares (RenameInstVar c x y) h = (tt, (tt, (tt, (tt, (tt, tt)))))
  spares (RemoveInstVar c x) h = (tt, (tt, (tt, (tt, tt))))
  spares (PushUpInstVar c x) h = (tt, (tt, (tt, (tt, given _ (superclass_name text_eq i c) (λ p. (tt, tt))))))
  spares (PushDownInstVar c x) h = (tt, (tt, (tt, (tt, tt))))
  spares (AddClassVar c x) h = (tt, (tt, (tt, (good-spares x h.good_name, tt))))
  spares (RenameClassVar c x y) h = (tt, (tt, (tt, (tt, (good-spares y h.good_name, tt)))))
  spares (RemoveClassVar c x) h = (tt, (tt, (tt, (tt, tt))))
  spares (PushUpClassVar c x) h = (tt, (tt, (tt, (tt, given _ (superclass_name text_eq i c) (λ p. (tt, tt))))))
  spares (PushDownClassVar c x d) h = (tt, (tt, (tt, (tt, (tt, (tt, tt))))))
  spares (AddClassSideVar c x) h = (tt, (tt, (tt, (tt, tt))))
  spares (RenameClassSideVar c x y) h = (tt, (tt, (tt, (tt, (tt, tt)))))
  spares (RemoveClassSideVar c x) h = (tt, (tt, (tt, (tt, tt))))
  spares (RenameSelector s t) h = (tt, (tt, (tt, (tt, (tt, (tt, (tt, tt)))))))
  spares (AddMethod c meta protocol text tree) h = (tt, (tt, (tt, (tt, tt))))
  spares (RemoveMethod c meta s) h = (tt, (tt, (tt, (tt, tt))))
  spares (PushUpMethod c meta s) h = (tt, (tt, (tt, (tt, given _ (superclass_name text_eq i c) (λ p. (tt, (tt, (tt, (tt, tt)))))))))
  spares (PushDownMethod c meta s) h = (tt, (tt, (tt, (tt, each (MeansSame c meta s) (receivers text_eq i c meta s) (Unreached s ∷ []) (λ d. tt) (tt, tt)))))
  spares c h = (tt, code-spares i c)

  first-plus : (c : CommandOf Name) → first_false text_asked i c ≡ None → first_false text_asked (plus i nil_doit) c ≡ None
  first-plus c e =
      none-false i c (needs text_asked i c) (spares c (all-hold text_asked i c e)) e

  -- no command changes `nil`
  variable-nil : (kind : VariableKind) (c x y : Name) → doit_of_variable text_words canonical i kind c x y nil_doit ≡ nil_doit
  unfolding is_pseudo_variable
  variable-nil kind c x y =
      ap (λ b. let body : SequenceOf Name = record { temporaries = []; statements = more_statements [] (var (if b then y else codes "nil")) no_statements; tail = [] } in
      let d : DoItOf Name = record { source = if b || false then canonical.doit_text body else codes "nil"; body = body } in d) (and-false (text_eq x (codes "nil")))

  last-nil : (c : CommandOf Name) → (effect-beside text_asked canonical i nil_doit c).last ≡ nil_doit
  unfolding is_pseudo_variable
  last-nil (RenameInstVar c x y) = variable-nil of_instance c x y
  last-nil (RenameClassVar c x y) = variable-nil of_class c x y
  last-nil (RenameClassSideVar c x y) = variable-nil of_class_side c x y
  last-nil (AbstractInstVar c x setter parameter) = last-same i canonical (AbstractInstVar c x setter parameter)
  last-nil c = refl

  -- what a command makes of the image with `nil` is what it makes of the image, with `nil`
  effect-nil : (c : CommandOf Name) → effect text_asked canonical c (plus i nil_doit) ≡ plus (effect text_asked canonical c i) nil_doit
  effect-nil c = (effect-beside text_asked canonical i nil_doit c).added ∙ ap (plus (effect text_asked canonical c i)) (last-nil c)

  pub judged-nil : (c : CommandOf Name) (m : ImageOf Name) → rules.judged i c ≡ Ok m → rules.judged (plus i nil_doit) c ≡ Ok (plus m nil_doit)
  judged-nil c m o =
      let done = made i c m o in
      ap (λ q. option_map_or {U = Result (ImageOf Name) (ConditionOf Name)} (λ p. Err p) q (Ok (effect text_asked canonical c (plus i nil_doit)))) (first-plus c done.0)
      ∙ ap {B = Result (ImageOf Name) (ConditionOf Name)} (λ (k : ImageOf Name). Ok k) (effect-nil c ∙ ap (λ k. plus k nil_doit) done.1)

  -- the conditions of composites
  pub own-nil : (x : ActionOf Name) → first_own_false text_asked (plus i nil_doit) x ≡ first_own_false text_asked i x
  own-nil (Single c) = refl
  own-nil (CreateAccessors c x s q) =
      ap (λ b. option_map (λ (j : ConditionOf Name × Bool). j.0) (find (λ (j : ConditionOf Name × Bool). not j.1)
      ((NoReflection, b) ∷ (IsUserClass c, is_user_class text_eq i c) ∷ (HasVariable c x, has_variable text_eq i of_instance c x) ∷ []))) (no_reflection-plus i)
  own-nil (ExtractSuperclass d p under) =
      ap (λ b. option_map (λ (j : ConditionOf Name × Bool). j.0) (find (λ (j : ConditionOf Name × Bool). not j.1) ((NoReflection, b) ∷ []))) (no_reflection-plus i)
  own-nil (PushUpWithMethods c x) =
      ap (λ b. option_map (λ (j : ConditionOf Name × Bool). j.0) (find (λ (j : ConditionOf Name × Bool). not j.1) ((NoReflection, b) ∷ []))) (no_reflection-plus i)

-- its text spells it
pub spells-nil : SpellsDoIt Second (codes "nil") nil_doit.body
spells-nil =
    let some = (doit_exactly nil_doit.body).1 (record {
      words = tt;
      statements = (tt, refl, refl, tt);
      notes = tt;
      height = omega arith;
      once = refl;
      once_inside = refl;
      assigned = refl;
    }) in
    doit_law Second some.0 nil_doit.body some.1

pub nil-admitted : (i : ImageOf Name) (script : List Request) (h : History) → verdict_in i script ≡ Ok h → Admits i script nil_doit
nil-admitted i script h o = record {
  spells = spells-nil;
  history = all_made rules (λ k. plus k nil_doit) judged-nil (λ k c. renaming-plus k nil_doit c) (λ k x e. own-nil k x ∙ e) (λ k x. steps-plus k nil_doit x) h;
  accepted = verdict-made rules (λ k. plus k nil_doit) judged-nil (λ k c. renaming-plus k nil_doit c) (λ k x e. own-nil k x ∙ e) (λ k x. steps-plus k nil_doit x) i script h o;
}
