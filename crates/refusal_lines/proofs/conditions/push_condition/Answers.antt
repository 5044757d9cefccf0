use Rattle.std.proofs.Common.{◌≡◌, refl}
use Rattle.rb_base.specs.Names.{name_at}
use Rattle.command_numbers.specs.MappedCommands.{map_condition}
use Rattle.commands.specs.declared.condition.Condition.{Condition}
use Rattle.commands.specs.declared.condition.Condition.TheVariants as condition
use Rattle.commands.specs.Views.{condition_of}
use Rattle.apply_model.specs.Lines.{code_words, condition_words}
use Rattle.refusal_lines.proofs.conditions.push_condition.Goals as goal

pub returns-in-HasVariable-clause-told : goal.returns-in-HasVariable-clause-told
returns-in-HasVariable-clause-told c = rw c.in-HasVariable.is c.push_pair.ensures.told

pub returns-in-VariableFree-clause-told : goal.returns-in-VariableFree-clause-told
returns-in-VariableFree-clause-told c = rw c.in-VariableFree.is c.push_pair-in-VariableFree.ensures.told

pub returns-in-VariableUnused-clause-told : goal.returns-in-VariableUnused-clause-told
returns-in-VariableUnused-clause-told c = rw c.in-VariableUnused.is c.push_pair-in-VariableUnused.ensures.told

pub returns-in-ParentIsUser-clause-told : goal.returns-in-ParentIsUser-clause-told
returns-in-ParentIsUser-clause-told c = rw c.in-ParentIsUser.is c.push_named-in-ParentIsUser.ensures.told

pub returns-in-Unreached-clause-told : goal.returns-in-Unreached-clause-told
returns-in-Unreached-clause-told c = rw c.in-Unreached.is c.push_named-in-Unreached.ensures.told

pub returns-in-LacksVariable-clause-told : goal.returns-in-LacksVariable-clause-told
returns-in-LacksVariable-clause-told c = rw c.in-LacksVariable.is c.push_pair-in-LacksVariable.ensures.told

pub returns-in_default-clause-told : goal.returns-in_default-clause-told
returns-in_default-clause-told c = rw (by c.args.condition refl) c.push_code_condition.ensures.told
  where
    -- the words of a condition that only commands have which change code
    by : (x : Condition) → c.args.condition ≡ x → condition_words (map_condition (name_at c.args.names.now) (condition_of x)) ≡ code_words (map_condition (name_at c.args.names.now) (condition_of x))
    by condition.NoReflection e = absurd (c.in_default.not-NoReflection e)
    by (condition.IsUserClass x) e = absurd (c.in_default.not-IsUserClass x e)
    by (condition.GoodName x y) e = absurd (c.in_default.not-GoodName x y e)
    by (condition.NameUnused x) e = absurd (c.in_default.not-NameUnused x e)
    by (condition.SelectorFresh x) e = absurd (c.in_default.not-SelectorFresh x e)
    by (condition.NotKernelSelector x) e = absurd (c.in_default.not-NotKernelSelector x e)
    by (condition.Arity x y) e = absurd (c.in_default.not-Arity x y e)
    by (condition.Implements x) e = absurd (c.in_default.not-Implements x e)
    by (condition.NotImplements x) e = absurd (c.in_default.not-NotImplements x e)
    by (condition.Removable x) e = absurd (c.in_default.not-Removable x e)
    by (condition.NoSubclasses x) e = absurd (c.in_default.not-NoSubclasses x e)
    by (condition.NotReferenced x) e = absurd (c.in_default.not-NotReferenced x e)
    by (condition.HasVariable x y) e = absurd (c.in_default.not-HasVariable x y e)
    by (condition.VariableFree x y) e = absurd (c.in_default.not-VariableFree x y e)
    by (condition.VariableUnused x y) e = absurd (c.in_default.not-VariableUnused x y e)
    by (condition.ParentIsUser x) e = absurd (c.in_default.not-ParentIsUser x e)
    by (condition.NoSuper x) e = absurd (c.in_default.not-NoSuper x e)
    by (condition.MeansSame x y) e = absurd (c.in_default.not-MeansSame x y e)
    by (condition.Unreached x) e = absurd (c.in_default.not-Unreached x e)
    by (condition.IsClass x) e = absurd (c.in_default.not-IsClass x e)
    by (condition.ChildOf x y) e = absurd (c.in_default.not-ChildOf x y e)
    by (condition.LacksVariable x y) e = absurd (c.in_default.not-LacksVariable x y e)
    by (condition.KnownSelector x) e = absurd (c.in_default.not-KnownSelector x e)
    by condition.UndoLeft e = absurd (c.in_default.not-UndoLeft e)
    by condition.RedoLeft e = absurd (c.in_default.not-RedoLeft e)
    by x e = refl
