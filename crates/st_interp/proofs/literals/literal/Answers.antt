use Rattle.std.proofs.Common.{◌≡◌, ℕ, List, Option, sym, ap, subst, ◌∙◌}
use Rattle.tree_model.specs.Tree.{LiteralOf}
use Rattle.run_model.specs.Values.{Name, Value}
use Rattle.run_model.specs.Store as run
use Rattle.run_model.specs.Acts.{acts}
use Rattle.run_model.specs.Eval.{literal_value}
use Rattle.st_meaning.specs.StoreView.{store_of}
use Rattle.st_meaning.specs.declared.store.Store.{Store}
use Rattle.st_literals.specs.Given.{given}
use Rattle.st_interp.specs.Trees.{literal_at}
use Rattle.st_interp.specs.Machine.{ended}
use Rattle.st_interp.specs.declared.state.Ending.{Ending}
use Rattle.st_interp.specs.declared.state.Ending.TheVariants as ending
use Rattle.st_interp.proofs.literals.literal.Goals as goal

-- an ending that tells what was given
tells_given : (names texts : List Name) (r : Option Value) (e : Ending) (l : LiteralOf ℕ) (s s1 : Store) → texts ≡ names → given r (store_of texts s1) ≡ literal_value acts (literal_at texts l) (store_of texts s)
    → ((m : run.Store) → ended e m ≡ given r m) → ended e (store_of names s1) ≡ literal_value acts (literal_at names l) (store_of names s)
tells_given names texts r e l s s1 q h go = go (store_of names s1) ∙ subst (λ n. given r (store_of n s1) ≡ literal_value acts (literal_at n l) (store_of n s)) q h

pub returns-in-Some-clause-ended : goal.returns-in-Some-clause-ended
returns-in-Some-clause-ended c =
    tells_given _ _ _ (ending.Value c.in-Some.value) c.args.value.now c.args.store.now c.literal.new.store c.names.ensures c.in_ok-value.ensures.value (λ m. ap (λ r. given r m) (sym c.in-Some.is))

pub returns-in-None-clause-ended : goal.returns-in-None-clause-ended
returns-in-None-clause-ended c =
    tells_given _ _ _ c.failed.result c.args.value.now c.args.store.now c.literal.new.store c.names.ensures c.in_ok-value.ensures.value (λ m. ap (λ e. ended e m) c.failed.ensures ∙ ap (λ r. given r m) (sym c.in-None.is))
