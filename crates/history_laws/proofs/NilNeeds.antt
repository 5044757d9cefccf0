-- Which conditions of commands speak of no use of the name `nil`: those of commands that change code all do.
use Rattle.std.proofs.Common.{not, ◌&&◌, List, [], ◌∷◌, ◌++◌, filter, Option, Some, None}
use Rattle.std.specs.Prelude.{option_map, filter_map}
use Rattle.std.specs.List.{AllByRecursion, cons_option}
use Rattle.std.specs.Option.{option_map_or}
use Rattle.rb_base.specs.Names.{text_eq}
use Rattle.image_model.specs.Image.{EntryOf, ImageOf}
use Rattle.run_model.specs.Values.{Name}
use Rattle.command_model.specs.Asked.{text_asked}
use Rattle.command_model.specs.Commands.{CommandOf, AddParameter, RemoveParameter, AbstractInstVar, ExtractMethod, InlineMethod, ExtractTemp, InlineTemp, RenameTemp}
use Rattle.command_model.specs.Conditions.{AtPart, ConditionOf, AtomLiteral, Inlinable, PlainActuals, NoCapture, NoNewControl, NotIn, Shallow}
use Rattle.command_model.specs.CodeEffects.{part_at, send_at, target_of}
use Rattle.command_model.specs.CodeNeeds.{code_needs}
use Rattle.history_laws.proofs.NilHolds.{SparesNil}

-- conditions that are given something
pub given : {X : Type 0} (f : X → List (ConditionOf Name)) (o : Option X) → ((x : X) → AllByRecursion SparesNil (f x)) → AllByRecursion SparesNil (option_map_or f o [])
given f None h = tt
given f (Some x) h = h x

-- conditions before others
joined : (ps qs : List (ConditionOf Name)) → AllByRecursion SparesNil ps → AllByRecursion SparesNil qs → AllByRecursion SparesNil (ps ++ qs)
joined [] qs h k = k
joined (p ∷ ps) qs h k = (h.0, joined ps qs h.1 k)

-- a name that is in no implementor
unimplemented : (s x : Name) (ms : List (EntryOf Name)) → AllByRecursion SparesNil (filter_map (λ (m : EntryOf Name). option_map (λ c. NotIn c m.meta s x) m.class) ms)
unimplemented s x [] = tt
unimplemented s x (m ∷ ms) = by m.class (unimplemented s x ms)
  where
    by : (o : Option Name) → AllByRecursion SparesNil (filter_map (λ (n : EntryOf Name). option_map (λ c. NotIn c n.meta s x) n.class) ms) →
        AllByRecursion SparesNil (cons_option (option_map (λ c. NotIn c m.meta s x) o) (filter_map (λ (n : EntryOf Name). option_map (λ c. NotIn c n.meta s x) n.class) ms))
    by None rest = rest
    by (Some c) rest = (tt, rest)

pub code-spares : (i : ImageOf Name) (c : CommandOf Name) → AllByRecursion SparesNil (code_needs text_asked i c)
code-spares i (AddParameter s t x passed) = (
  tt,
  (
    tt,
    (
      tt,
      (
        tt,
        (
          tt,
          (
            tt,
            (
              tt,
              joined _ (AtomLiteral ∷ Shallow ∷ []) (unimplemented s x (filter (λ (m : EntryOf Name). not m.kernel && text_eq s m.tree.selector) i.methods)) (tt, (tt, tt)),
            ),
          ),
        ),
      ),
    ),
  ),
)
code-spares i (RemoveParameter s k t) = (tt, (tt, (tt, (tt, (tt, (tt, (tt, (tt, tt))))))))
code-spares i (AbstractInstVar c x setter parameter) = (tt, (tt, (tt, (tt, (tt, (tt, (tt, tt)))))))
code-spares i (ExtractMethod c meta s from to t) =
    (tt, (tt, (tt, (tt, (tt, (tt, (tt, (tt, (tt, given _ (part_at text_asked i c meta s from to) (λ e. (tt, (tt, (tt, tt)))))))))))))
code-spares i (InlineMethod c meta s from to) = (
  tt,
  (
    tt,
    (
      tt,
      given _ (send_at text_asked i c meta s from to)
          (λ e. (
            tt,
            given _ (target_of text_asked i c meta e.1)
                (λ (target : EntryOf Name). joined (option_map_or (λ d. Inlinable d target.meta e.1.selector ∷ []) target.class [])
                (PlainActuals c meta s from to ∷ NoCapture c meta s (AtPart from to) ∷ NoNewControl c meta s (AtPart from to) ∷ Shallow ∷ [])
                (given (λ d. Inlinable d target.meta e.1.selector ∷ []) target.class (λ d. (tt, tt))) (tt, (tt, (tt, (tt, tt))))),
          )),
    ),
  ),
)
code-spares i (ExtractTemp c meta s from to x) = (tt, (tt, (tt, (tt, (tt, (tt, (tt, tt)))))))
code-spares i (InlineTemp c meta s x) = (tt, (tt, (tt, (tt, (tt, (tt, (tt, tt)))))))
code-spares i (RenameTemp c meta s x y) = (tt, (tt, (tt, (tt, (tt, tt)))))
code-spares i c = tt
