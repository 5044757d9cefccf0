-- Each accepted script keeps images valid, also where lines of it move code.
use Rattle.std.proofs.Common.{◌≡◌, Bool, true, false, not, List, [], ◌∷◌, map, filter, find, Option, Some, None, Ok, Err, option_map, refl, subst}
use Rattle.std.specs.List.{AllByRecursion}
use Rattle.std.specs.Option.{option_map_or}
use Rattle.rb_base.specs.Names.{text_eq}
use Rattle.token_model.specs.declared.kind.Dialect.TheVariants.{Second}
use Rattle.text_model.specs.Whole.{canonical_method}
use Rattle.image_model.specs.Image.{EntryOf, ImageOf}
use Rattle.image_model.specs.Words.{text_words}
use Rattle.image_model.specs.Means.{of_instance}
use Rattle.image_model.specs.Valid.{IsValid, IsFileable}
use Rattle.reread_law.specs.WholeTrees.{WellFormedMethod}
use Rattle.reread_law.proofs.Methods.{method_again}
use Rattle.tree_model.specs.Tree.{MethodOf}
use Rattle.file_model.specs.Filing.{Text}
use Rattle.file_model.specs.Fileable.{reading_of}
use Rattle.file_rereading.specs.Rereading.{KernelFirst}
use Rattle.rename_model.specs.ClassRenamed.{canonical}
use Rattle.rename_model.specs.Conditions.{has_no_reflection, is_user_class, has_variable}
use Rattle.command_model.specs.Accessors.{getter, setter_of}
use Rattle.command_model.specs.Asked.{text_asked}
use Rattle.command_model.specs.Commands.{CommandOf, PushUpInstVar, PushUpMethod}
use Rattle.command_model.specs.Conditions.{ConditionOf, NoReflection, IsUserClass, HasVariable}
use Rattle.command_model.specs.Effects.{effect}
use Rattle.command_model.specs.Judged.{first_false}
use Rattle.history_model.specs.History.{version_after}
use Rattle.history_model.specs.Rules.{Asks}
use Rattle.history_model.proofs.Keeping.{verdict-good}
use Rattle.session_model.specs.Actions.{ActionOf, Single, CreateAccessors, ExtractSuperclass, PushUpWithMethods}
use Rattle.session_model.specs.Scripts.{Request, Version, History, rules, verdict_in}
use Rattle.session_model.specs.Steps.{accessor, shared_by, shared_pushes, names_it}
use Rattle.effect_laws.proofs.Items.{all_in}
use Rattle.effect_laws.proofs.Sound.{MayBeName, sound_of}
use Rattle.effect_laws.proofs.Blanks.{may_stand, method_begins}
use Rattle.effect_laws.proofs.Facts.{variable_there}
use Rattle.effect_laws.proofs.Kernel.{IsWhole}
use Rattle.kept_runs.specs.WellSpelled.{IsWellSpelled, IsWellSpelledAction}
use Rattle.code_effect_laws.proofs.Abstracted.{given_name, getter_well, setter_well}
use Rattle.code_effect_laws.proofs.CodeKept.{kept_valid, kept_fileable, kept_first}

-- the last of three conditions holds, where none is false
last_holds : (p q r : ConditionOf Text) (a b c : Bool) → option_map (λ (j : ConditionOf Text × Bool). j.0) (find (λ (j : ConditionOf Text × Bool). not j.1) ((p, a) ∷ (q, b) ∷ (r, c) ∷ [])) ≡ None → c ≡ true
last_holds p q r false b c e = absurd (cc)
last_holds p q r true false c e = absurd (cc)
last_holds p q r true true false e = absurd (cc)
last_holds p q r true true true e = refl

-- the image after a command that is accepted
made : (i : ImageOf Text) (c : CommandOf Text) (j : ImageOf Text) → rules.judged i c ≡ Ok j → (first_false text_asked i c ≡ None) × (effect text_asked canonical c i ≡ j)
made i c j e = by (first_false text_asked i c) refl e
  where
    by : (o : Option (ConditionOf Text)) → first_false text_asked i c ≡ o → option_map_or (λ (q : ConditionOf Text). Err q) o (Ok (effect text_asked canonical c i)) ≡ Ok j → (first_false text_asked i c ≡ None) × (effect text_asked canonical c i ≡ j)
    by None q h = (q, (let same : effect text_asked canonical c i ≡ j = cc in same))
    by (Some x) q h = absurd (cc)

-- a method that is well formed is added by its text
spelled : (c : Text) (tree : MethodOf Text) → WellFormedMethod false tree → IsWellSpelled (accessor canonical c tree)
spelled c tree w = (method_again false tree w, may_stand (canonical_method tree) (method_begins tree w), tt)

-- commands of which nothing is asked
all_spelled : {X : Type 0} (f : X → CommandOf Text) (xs : List X) → ((x : X) → IsWellSpelled (f x)) → AllByRecursion IsWellSpelled (map f xs)
all_spelled f [] h = tt
all_spelled f (x ∷ xs) h = (h x, all_spelled f xs h)

pushes_spelled : (i : ImageOf Text) (under : List Text) → AllByRecursion IsWellSpelled (shared_pushes text_eq i under)
pushes_spelled i [] = tt
pushes_spelled i (s ∷ others) = all_spelled (PushUpInstVar s) (shared_by text_eq i s others) (λ x. (tt, tt, tt))

module _ (kernel : ImageOf Text) (whole : IsWhole kernel) where
  -- valid behind the kernel
  abbrev IsValidImage : ImageOf Text → Type 0
  IsValidImage i = IsValid text_words (reading_of Second kernel) i

  -- the steps of an action
  steps_spelled : (i : ImageOf Text) (x : ActionOf Text) → IsValidImage i → IsWellSpelledAction x → rules.first_false i x ≡ None → AllByRecursion IsWellSpelled (rules.steps_of i x)
  steps_spelled i (Single c) v w e = (w, tt)
  steps_spelled i (CreateAccessors c x s q) v w e =
      let has = last_holds NoReflection (IsUserClass c) (HasVariable c x) (has_no_reflection text_asked.command_words i) (is_user_class text_eq i c) (has_variable text_eq i of_instance c x) e in
      let owner = variable_there i of_instance c x has in
      let name = given_name x (all_in MayBeName owner.0.instance ((sound_of kernel i v).classes.named owner.0 owner.1.there).instance x owner.2) in
      (spelled c (getter x) (getter_well x name), (spelled c (setter_of x s q) (setter_well x s q name w), tt))
  steps_spelled i (ExtractSuperclass d p under) v w e = ((tt, tt, tt), pushes_spelled i under)
  steps_spelled i (PushUpWithMethods c x) v w e =
      ((tt, tt, tt), all_spelled (λ (m : EntryOf Text). PushUpMethod c false m.tree.selector) (filter (names_it text_eq c x) i.methods) (λ m. (tt, tt, tt)))

  module _ (i : ImageOf Text) where
    -- the image of a version is valid, can be written where the first one can, and has the kernel first where that has
    pub record IsKeptVersion (v : Version) : Type 0 where
      pub valid : IsValidImage v.image
      pub fileable : IsFileable (reading_of Second kernel) i → IsFileable (reading_of Second kernel) v.image
      pub first : KernelFirst kernel i → KernelFirst kernel v.image

    command_kept : (v : Version) (c : CommandOf Text) (j : ImageOf Text) → IsKeptVersion v → IsWellSpelled c → rules.judged v.image c ≡ Ok j → IsKeptVersion (version_after rules v c j)
    command_kept v c j k w e =
        let done = made v.image c j e in
        record {
          valid = subst IsValidImage done.1 (kept_valid kernel whole v.image c k.valid w.0 w.2 done.0);
          fileable = λ f. subst (IsFileable (reading_of Second kernel)) done.1 (kept_fileable kernel whole v.image c k.valid w.0 w.2 done.0 w.1 (k.fileable f));
          first = λ f. subst (KernelFirst kernel) done.1 (kept_first kernel whole v.image c k.valid w.0 w.2 done.0 (k.first f));
        }

    pub script_kept : (script : List Request) (h : History) → IsValidImage i → AllByRecursion (Asks IsWellSpelledAction) script → verdict_in i script ≡ Ok h → IsKeptVersion h.now
    script_kept script h v w e =
        verdict-good rules IsKeptVersion IsWellSpelled IsWellSpelledAction command_kept (λ u x k a none. steps_spelled u.image x k.valid a none)
        i script h (record { valid = v; fileable = λ f. f; first = λ f. f }) w e
