-- A script keeps how many do-its there are, and which of them stand at the head.
use Rattle.std.proofs.Common.{◌≡◌, Bool, List, [], ◌∷◌, length, map, Option, Some, None, Ok, refl, sym, subst, ◌∙◌}
use Rattle.std.specs.Prelude.{option_map, if◌then◌else◌, unwrap_or}
use Rattle.std.specs.List.{AllByRecursion}
use Rattle.std.specs.Option.{option_map_or}
use Rattle.std.proofs.lemmas.List.{length-map}
use Rattle.rb_base.specs.Names.{text_eq}
use Rattle.tree_model.specs.Tree.{MethodOf}
use Rattle.image_model.specs.Image.{EntryOf, DoItOf, ImageOf}
use Rattle.image_model.specs.Lookup.{is_method}
use Rattle.run_model.specs.Values.{Name}
use Rattle.rename_model.specs.ClassRenamed.{canonical}
use Rattle.command_model.specs.Asked.{text_asked}
use Rattle.command_model.specs.Commands.{CommandOf, RenameClass, AddClass, RemoveClass, AddInstVar, RenameInstVar, RemoveInstVar, PushUpInstVar, PushDownInstVar, AddClassVar, RenameClassVar, RemoveClassVar, PushUpClassVar, PushDownClassVar, AddClassSideVar, RenameClassSideVar, RemoveClassSideVar, RenameSelector, AddMethod, RemoveMethod, PushUpMethod, PushDownMethod, AddParameter, RemoveParameter, RenameTemp, AbstractInstVar, ExtractMethod, InlineMethod, ExtractTemp, InlineTemp}
use Rattle.command_model.specs.CodeEffects.{part_at, tree_inlining, tree_extracting, tree_without, tree_renaming, tree_made, retreed}
use Rattle.command_model.specs.Effects.{effect}
use Rattle.command_model.specs.Extracted.{method_extracted}
use Rattle.command_model.specs.Hierarchy.{superclass_name}
use Rattle.command_model.specs.MethodEffects.{of_class_named}
use Rattle.command_model.specs.Sequences.{with_tree}
use Rattle.command_model.specs.VariableEffects.{class_pushed_up, shared_moved}
use Rattle.history_model.specs.Rules.{Perform, Undo, Redo, Asks}
use Rattle.history_model.proofs.Keeping.{verdict-good}
use Rattle.ruled_model.specs.RuledScripts.{Change, Plainly, ByRule, Line, Version, History, ruled, ruled_verdict}
use Rattle.ruled_laws.proofs.RuledKept.{made, made_by_rule}

-- as many do-its, and the same of them at the head
pub record HasSameDoIts (i j : ImageOf Name) : Type 0 where
  pub doits : length i.doits ≡ length j.doits
  pub heads : i.heads ≡ j.heads

-- other classes and methods, and each do-it changed
all-changed : (i : ImageOf Name) (f : DoItOf Name → DoItOf Name) → length i.doits ≡ length (map f i.doits)
all-changed i f = sym (length-map i.doits f)

-- where there is nothing to change the image stays
where-there : {X : Type 0} (i : ImageOf Name) (f : X → ImageOf Name) → ((x : X) → HasSameDoIts i (f x)) → (o : Option X) → HasSameDoIts i (option_map_or f o i)
where-there i f same None = record { doits = refl; heads = refl }
where-there i f same (Some x) = same x

where-made : {X : Type 0} (i : ImageOf Name) (f : X → ImageOf Name) → ((x : X) → HasSameDoIts i (f x)) → (o : Option X) → HasSameDoIts i (unwrap_or (option_map f o) i)
where-made i f same None = record { doits = refl; heads = refl }
where-made i f same (Some x) = same x

-- a method gets another tree
retreed-keeps : (i : ImageOf Name) (c : Name) (meta : Bool) (s : Name) (change : EntryOf Name → Option (MethodOf Name)) → HasSameDoIts i (unwrap_or (retreed text_asked i canonical c meta s change) i)
retreed-keeps i c meta s change = where-made i (λ tree. with_tree text_eq canonical c meta s tree i) (λ tree. record { doits = refl; heads = refl }) (tree_made text_asked i c meta s change)

-- what a command makes
command-keeps : (i : ImageOf Name) (c : CommandOf Name) → HasSameDoIts i (effect text_asked canonical c i)
command-keeps i (RenameClass c d) = record { doits = all-changed i _; heads = refl }
command-keeps i (AddClass d p under) = record { doits = refl; heads = refl }
command-keeps i (RemoveClass c) = record { doits = refl; heads = refl }
command-keeps i (AddInstVar c x) = record { doits = refl; heads = refl }
command-keeps i (RenameInstVar c x y) = record { doits = all-changed i _; heads = refl }
command-keeps i (RemoveInstVar c x) = record { doits = refl; heads = refl }
command-keeps i (PushUpInstVar c x) = where-there i (λ p. record i { classes = map (class_pushed_up text_eq p x) i.classes }) (λ p. record { doits = refl; heads = refl }) (superclass_name text_eq i c)
command-keeps i (PushDownInstVar c x) = record { doits = refl; heads = refl }
command-keeps i (AddClassVar c x) = record { doits = refl; heads = refl }
command-keeps i (RenameClassVar c x y) = record { doits = all-changed i _; heads = refl }
command-keeps i (RemoveClassVar c x) = record { doits = refl; heads = refl }
command-keeps i (PushUpClassVar c x) = where-there i (λ p. shared_moved text_eq c x p i) (λ p. record { doits = refl; heads = refl }) (superclass_name text_eq i c)
command-keeps i (PushDownClassVar c x d) = record { doits = refl; heads = refl }
command-keeps i (AddClassSideVar c x) = record { doits = refl; heads = refl }
command-keeps i (RenameClassSideVar c x y) = record { doits = all-changed i _; heads = refl }
command-keeps i (RemoveClassSideVar c x) = record { doits = refl; heads = refl }
command-keeps i (RenameSelector s t) = record { doits = all-changed i _; heads = refl }
command-keeps i (AddMethod c meta protocol text tree) = record { doits = refl; heads = refl }
command-keeps i (RemoveMethod c meta s) = record { doits = refl; heads = refl }
command-keeps i (PushUpMethod c meta s) =
    where-there i (λ p. record i { methods = map (λ m. if is_method text_eq c meta s m then of_class_named m p else m) i.methods }) (λ p. record { doits = refl; heads = refl }) (superclass_name text_eq i c)
command-keeps i (PushDownMethod c meta s) = record { doits = refl; heads = refl }
command-keeps i (AddParameter s t x passed) = record { doits = all-changed i _; heads = refl }
command-keeps i (RemoveParameter s k t) = record { doits = all-changed i _; heads = refl }
command-keeps i (AbstractInstVar c x setter given) = record { doits = all-changed i _; heads = refl }
command-keeps i (ExtractMethod c meta s from to t) = where-made i (λ e. method_extracted text_asked canonical c meta s e.0 e.1 t i) (λ e. record { doits = refl; heads = refl }) (part_at text_asked i c meta s from to)
command-keeps i (InlineMethod c meta s from to) = retreed-keeps i c meta s (tree_inlining text_asked i c meta s from to)
command-keeps i (ExtractTemp c meta s from to x) = retreed-keeps i c meta s (tree_extracting text_asked i from to x)
command-keeps i (InlineTemp c meta s x) = retreed-keeps i c meta s (tree_without text_asked i x)
command-keeps i (RenameTemp c meta s x y) = retreed-keeps i c meta s (tree_renaming text_asked i x y)

-- nothing is asked of commands and actions
all-fit : {X : Type 0} (xs : List X) → AllByRecursion (λ x. Unit {0}) xs
all-fit [] = tt
all-fit (x ∷ xs) = (tt, all-fit xs)

line-fits : (r : Line) → Asks (λ x. Unit {0}) r
line-fits (Perform x) = tt
line-fits Undo = tt
line-fits Redo = tt

lines-fit : (rs : List Line) → AllByRecursion (Asks (λ x. Unit {0})) rs
lines-fit [] = tt
lines-fit (r ∷ rs) = (line-fits r, lines-fit rs)

module _ (i : ImageOf Name) where
  also-same : (j k : ImageOf Name) → HasSameDoIts i j → HasSameDoIts j k → HasSameDoIts i k
  also-same j k good next = record { doits = good.doits ∙ next.doits; heads = good.heads ∙ next.heads }

  keeps : (v : Version) (c : Change) (j : ImageOf Name) → HasSameDoIts i v.image → ruled.judged v.image c ≡ Ok j → HasSameDoIts i j
  keeps v (Plainly c) j good e = also-same v.image j good (subst (HasSameDoIts v.image) (made v.image c j e).1 (command-keeps v.image c))
  keeps v (ByRule c) j good e = also-same v.image j good (subst (HasSameDoIts v.image) (made_by_rule v.image c j e).1 (record { doits = all-changed v.image _; heads = refl }))

  pub script-keeps : (script : List Line) (h : History) → ruled_verdict i script ≡ Ok h → HasSameDoIts i h.now.image
  script-keeps script h e =
      verdict-good ruled (λ (v : Version). HasSameDoIts i v.image) (λ c. Unit {0}) (λ x. Unit {0}) (λ v c j good fit accepted. keeps v c j good accepted)
      (λ v x good meant none. all-fit (ruled.steps_of v.image x)) i script h (record { doits = refl; heads = refl }) (lines-fit script) e
