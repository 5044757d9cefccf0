-- Scripts keep what single commands keep.
use Rattle.std.proofs.Common.{◌≡◌, Bool, true, false, not, List, [], ◌∷◌, map, filter, find, Option, Some, None, Ok, option_map, refl, sym, ap, ◌∙◌, subst}
use Rattle.std.specs.Prelude.{◌||◌}
use Rattle.std.specs.List.{AllByRecursion, list_any}
use Rattle.std.specs.Option.{option_map_or}
use Rattle.std.proofs.lemmas.Bool.{false≢true}
use Rattle.rb_base.specs.Names.{text_eq}
use Rattle.token_model.specs.declared.kind.Dialect.TheVariants.{Second}
use Rattle.grammar_model.specs.Spelling.{SpellsDoIt}
use Rattle.grammar_model.proofs.Limits.{limit_DoIt}
use Rattle.image_model.specs.Image.{ClassOf, EntryOf, DoItOf, ImageOf, plus}
use Rattle.image_model.specs.ImageNames.{OptionNames}
use Rattle.image_model.specs.Words.{text_words}
use Rattle.image_model.specs.Chain.{class_named}
use Rattle.image_model.specs.Means.{of_instance}
use Rattle.image_model.specs.Valid.{GivesNames, IsFileable}
use Rattle.image_model.proofs.Lists.{find-all}
use Rattle.image_model.proofs.GrownLemmas.{IsValid-plus}
use Rattle.run_model.specs.Values.{Name}
use Rattle.run_model.specs.Renamings.{composed}
use Rattle.run_model.specs.Matched.{AreMatched}
use Rattle.run_model.proofs.Finite.{by_cases}
use Rattle.run_model.proofs.RenamingLemmas.{text-same, is-composite}
use Rattle.run_model.proofs.MatchedLemmas.{matched-same, matched-trans}
use Rattle.file_model.specs.Words.{may_name}
use Rattle.file_model.specs.Fileable.{reading_of}
use Rattle.file_rereading.specs.Rereading.{KernelFirst}
use Rattle.rename_model.specs.Conditions.{has_no_reflection, is_user_class, has_variable}
use Rattle.command_model.specs.Asked.{text_asked}
use Rattle.command_model.specs.Commands.{CommandOf, PushUpInstVar, PushUpMethod}
use Rattle.command_model.specs.Conditions.{ConditionOf, NoReflection, IsUserClass, HasVariable}
use Rattle.command_model.specs.Renamings.{renaming_of}
use Rattle.history_model.specs.Rules.{Asks}
use Rattle.history_model.specs.History.{version_after}
use Rattle.history_model.proofs.Keeping.{verdict-good}
use Rattle.session_model.specs.Actions.{ActionOf, Single, CreateAccessors, ExtractSuperclass, PushUpWithMethods}
use Rattle.session_model.specs.Steps.{shared_by, shared_pushes, names_it}
use Rattle.session_model.specs.Scripts.{Request, Version, History, rules, verdict_in}
use Rattle.kept_runs.specs.WellSpelled.{IsWellSpelled, IsWellSpelledAction}
use Rattle.kept_runs.specs.KeepsRuns.{IsSound, AllKeepRuns, IsKept}
use Rattle.history_laws.proofs.JudgedBeside.{made}
use Rattle.history_laws.proofs.Accessors.{getter-lawful, setter-lawful}

-- the last of three conditions holds, where none is false
last-holds : (p q r : ConditionOf Name) (a b c : Bool) →
    option_map (λ (j : ConditionOf Name × Bool). j.0) (find (λ (j : ConditionOf Name × Bool). not j.1) ((p, a) ∷ (q, b) ∷ (r, c) ∷ [])) ≡ None → c ≡ true
last-holds p q r false b c e = absurd (cc)
last-holds p q r true false c e = absurd (cc)
last-holds p q r true true false e = absurd (cc)
last-holds p q r true true true e = refl

-- a name among those of which a fact holds
among : (P : Name → Type 0) (x : Name) (ys : List Name) → AllByRecursion P ys → list_any (text_eq x) ys ≡ true → P x
among P x [] all e = absurd (false≢true e)
among P x (y ∷ ys) all e =
    by_cases (text_eq x y) (λ t. subst P (sym (text-same x y t)) all.0)
    (λ f. among P x ys all.1 (sym (ap (λ b. b || list_any (text_eq x) ys) f) ∙ e))

-- an instance variable of a class has a name that may be given
in-class : (kernel : ImageOf Name) (x : Name) (o : Option (ClassOf Name)) → OptionNames (GivesNames ((reading_of Second kernel).IsName)) o →
    option_map_or (λ (e : ClassOf Name). list_any (text_eq x) e.instance) o false ≡ true → may_name x ≡ true
in-class kernel x None gives h = absurd (false≢true h)
in-class kernel x (Some e) gives h = among (λ n. may_name n ≡ true) x e.instance gives.instance h

named : (kernel i : ImageOf Name) (c x : Name) → IsSound kernel i → has_variable text_eq i of_instance c x ≡ true → may_name x ≡ true
named kernel i c x sound h =
    in-class kernel x (class_named text_eq i.classes c) (find-all (GivesNames ((reading_of Second kernel).IsName)) (λ e. text_eq c e.name) i.classes sound.names_may_be_given) h

-- commands of which nothing is asked
all-spelled : {X : Type 0} (f : X → CommandOf Name) (xs : List X) → ((x : X) → IsWellSpelled (f x)) → AllByRecursion IsWellSpelled (map f xs)
all-spelled f [] h = tt
all-spelled f (x ∷ xs) h = (h x, all-spelled f xs h)

-- the pushes of variables that classes share
pushes-spelled : (i : ImageOf Name) (under : List Name) → AllByRecursion IsWellSpelled (shared_pushes text_eq i under)
pushes-spelled i [] = tt
pushes-spelled i (s ∷ others) = all-spelled (PushUpInstVar s) (shared_by text_eq i s others) (λ x. (tt, tt, tt))

-- the steps of a well spelled action whose own conditions hold are well spelled
pub steps-spelled : (kernel i : ImageOf Name) (x : ActionOf Name) → IsSound kernel i → IsWellSpelledAction x → rules.first_false i x ≡ None → AllByRecursion IsWellSpelled (rules.steps_of i x)
steps-spelled kernel i (Single c) sound spelled e = (spelled, tt)
steps-spelled kernel i (CreateAccessors c x s q) sound spelled e =
    let has = last-holds NoReflection (IsUserClass c) (HasVariable c x) (has_no_reflection text_asked.command_words i) (is_user_class text_eq i c) (has_variable text_eq i of_instance c x) e in
    let name = named kernel i c x sound has in
    let reads = getter-lawful x name in
    let assigns = setter-lawful x s q name spelled in
    ((reads.0, reads.1, tt), ((assigns.0, assigns.1, tt), tt))
steps-spelled kernel i (ExtractSuperclass d p under) sound spelled e = ((tt, tt, tt), pushes-spelled i under)
steps-spelled kernel i (PushUpWithMethods c x) sound spelled e =
    ((tt, tt, tt), all-spelled (λ (m : EntryOf Name). PushUpMethod c false m.tree.selector) (filter (names_it text_eq c x) i.methods) (λ m. (tt, tt, tt)))

module _ (kernel i : ImageOf Name) (keeps : AllKeepRuns kernel) where
  -- a command keeps it
  command-keeps : (v : Version) (c : CommandOf Name) (j : ImageOf Name) → IsKept kernel i v → IsWellSpelled c → rules.judged v.image c ≡ Ok j → IsKept kernel i (version_after rules v c j)
  command-keeps v c j kept spelled e =
      let done = made v.image c j e in
      let law = keeps c spelled in
      record {
        valid = subst (IsSound kernel) done.1 (law.valid v.image kept.valid done.0);
        fileable = λ may. subst (IsFileable (reading_of Second kernel)) done.1 (law.fileable v.image kept.valid (kept.fileable may) done.0);
        first = λ is. subst (KernelFirst kernel) done.1 (law.first v.image kept.valid (kept.first is) done.0);
        matched =
            matched-trans v.renaming (renaming_of v.image c) (composed v.renaming (renaming_of v.image c)) (is-composite v.renaming (renaming_of v.image c)) i v.image j kept.matched
            (subst (λ k. AreMatched v.image k (renaming_of v.image c)) done.1 (law.matched v.image kept.valid done.0));
      }

  pub script-keeps : (script : List Request) (h : History) → IsSound kernel i → AllByRecursion (Asks IsWellSpelledAction) script → verdict_in i script ≡ Ok h → IsKept kernel i h.now
  script-keeps script h sound spelled e =
      verdict-good rules (IsKept kernel i) IsWellSpelled IsWellSpelledAction command-keeps (λ v x kept s none. steps-spelled kernel v.image x kept.valid s none)
      i script h (record { valid = sound; fileable = λ may. may; first = λ is. is; matched = matched-same i }) spelled e

-- an image with one more do-it is valid
pub plus-sound : (kernel i : ImageOf Name) (e : DoItOf Name) → IsSound kernel i → SpellsDoIt Second e.source e.body → IsSound kernel (plus i e)
plus-sound kernel i e sound spells = IsValid-plus text_words (reading_of Second kernel) i sound e (record { spells = spells; height = limit_DoIt Second e.source e.body spells })
