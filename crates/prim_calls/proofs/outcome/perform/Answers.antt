use Rattle.run_model.specs.Values.{nil_value}
use Rattle.st_meaning.specs.StoreView.{store_of}
use Rattle.prim_calls.proofs.Done.{done, spent}
use Rattle.prim_calls.proofs.outcome.perform.Goals as goal

pub returns-then-not-pay-clause-done : goal.returns-then-not-pay-clause-done
returns-then-not-pay-clause-done c names go args =
    spent go args c.in-Answers.ticks c.in-Answers.told c.in-Answers.value c.in-Answers.change c.args.reply (store_of names c.args.store.now) (store_of names c.pay.new.self)
    c.in-Answers.is (c.if-not-pay.ensures.store names nil_value)

pub returns-in_ok-make-in-Answers-clause-done : goal.returns-in_ok-make-in-Answers-clause-done
returns-in_ok-make-in-Answers-clause-done c names go args =
    done go args c.in-Answers.ticks c.in-Answers.told c.in-Answers.value c.in-Answers.change c.args.reply (store_of names c.args.store.now) (store_of names c.pay.new.self) (store_of names c.tell_any.new.store) (store_of names c.make.new.store)
    c.in-Answers.is (c.if-not-pay.ensures.store names nil_value) (c.in_ok-tell_any-in-Answers.ensures.store names) (c.in_ok-make-in-Answers.ensures.store names)
