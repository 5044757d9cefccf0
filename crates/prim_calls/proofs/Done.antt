-- A reply that is done: its ticks, then its event, then its change of the heap.
use Rattle.std.proofs.Common.{◌≡◌, ℕ, ◌-◌, Bool, true, false, if◌then◌else◌, List, Option, Some, None, refl, sym, ap, ◌∙◌}
use Rattle.std.specs.Prelude.{nat_le}
use Rattle.run_model.specs.Values.{Value, nil_value, Event}
use Rattle.run_model.specs.Store.{Heap, Memory, Store, Result, fine, leaves, out_of_ticks}
use Rattle.run_model.specs.Acts.{acts, then_do, gives, and_then, with_memory, tells, pays}
use Rattle.run_model.specs.Calls.{answers}
use Rattle.run_model.specs.Eval.{Evaluator, follows, tells_any}
use Rattle.prim_calls.specs.declared.reply.Change.{Change}
use Rattle.prim_calls.specs.declared.reply.Reply.{Reply}
use Rattle.prim_calls.specs.declared.reply.Reply.TheVariants as reply
use Rattle.prim_calls.specs.Replies.{changed, told_in, changed_in, reply_of}

heap_after : Result Value → Heap
heap_after (fine a s) = s.memory.heap
heap_after (leaves x s) = s.memory.heap

heap_paid : (n : ℕ) (a : Value) (s : Store) → heap_after (pays n a s) ≡ s.memory.heap
unfolding pays heap_after
heap_paid n a s = by (nat_le n s.ticks)
  where
    by : (b : Bool) → heap_after (if b then fine a (record s { ticks = s.ticks - n }) else leaves out_of_ticks (record s { ticks = 0 })) ≡ s.memory.heap
    by true = refl
    by false = refl

-- what follows on the ticks
abbrev next : Option Event → Value → Heap → Value → Store → Result Value
next told v h u s = and_then (tells_any acts told) (λ w. with_memory (λ (m : Memory). (v, record m { heap = h }))) s

told_and_changed : (told : Option Event) (v : Value) (h : Heap) (s : Store) → next told v h nil_value s ≡ fine v (record (told_in told s) { memory = record s.memory { heap = h } })
unfolding and_then tells gives with_memory
told_and_changed None v h s = refl
told_and_changed (Some e) v h s = refl

told_memory : (told : Option Event) (s : Store) → (told_in told s).memory ≡ s.memory
told_memory None s = refl
told_memory (Some e) s = refl

answered : (go : Evaluator acts) (args : List Value) (n : ℕ) (told : Option Event) (v : Value) (c : Change) (s s1 s2 s3 : Store) → fine nil_value s1 ≡ pays n nil_value s → s2 ≡ told_in told s1 → s3 ≡ changed_in c s2 → fine v s3 ≡ follows acts go args (answers n told v (changed s.memory.heap c)) s
unfolding and_then heap_after
answered go args n told v c s s1 s2 s3 p q r =
    let e : s1.memory.heap ≡ s.memory.heap = ap heap_after p ∙ heap_paid n nil_value s in
    ap (λ z. fine v z) (r ∙ ap (changed_in c) q)
    ∙ ap (λ (m : Memory). fine v (record (told_in told s1) { memory = record m { heap = changed m.heap c } })) (told_memory told s1)
    ∙ ap (λ h. fine v (record (told_in told s1) { memory = record s1.memory { heap = changed h c } })) e
    ∙ sym (told_and_changed told v (changed s.memory.heap c) s1)
    ∙ ap (λ x. then_do x (next told v (changed s.memory.heap c))) p

-- the same of a reply that is an answer
pub done : (go : Evaluator acts) (args : List Value) (n : ℕ) (told : Option Event) (v : Value) (c : Change) (r : Reply) (s s1 s2 s3 : Store) → r ≡ reply.Answers n told v c → fine nil_value s1 ≡ pays n nil_value s → s2 ≡ told_in told s1 → s3 ≡ changed_in c s2 → fine v s3 ≡ follows acts go args (reply_of s.memory.heap r) s
done go args n told v c r s s1 s2 s3 e p q h = answered go args n told v c s s1 s2 s3 p q h ∙ ap (λ z. follows acts go args (reply_of s.memory.heap z) s) (sym e)

-- a reply that wants more ticks than are left
pub spent : (go : Evaluator acts) (args : List Value) (n : ℕ) (told : Option Event) (v : Value) (c : Change) (r : Reply) (s s1 : Store) → r ≡ reply.Answers n told v c → leaves out_of_ticks s1 ≡ pays n nil_value s → leaves out_of_ticks s1 ≡ follows acts go args (reply_of s.memory.heap r) s
unfolding and_then
spent go args n told v c r s s1 e p =
    ap (λ x. then_do x (next told v (changed s.memory.heap c))) p ∙ ap (λ z. follows acts go args (reply_of s.memory.heap z) s) (sym e)
