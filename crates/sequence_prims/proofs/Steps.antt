-- Steps of primitives, each with what is known of its thing.
use Rattle.std.proofs.Common.{◌≡◌, ℕ, ◌<◌, true, false, if◌then◌else◌, length, replicate, ℤ, pos, negsuc, Option, Some, None, Result, Ok, Err, refl, sym, ap, ◌∙◌, arith, true≢false}
use Rattle.std.specs.Prelude.{IfOk, option_map, unwrap_or, int_lt, nat_abs}
use Rattle.std.specs.Option.{is_some}
use Rattle.std.proofs.lemmas.List.{length-replicate}
use Rattle.std.proofs.lemmas.Bool.{ltb-true}
use Rattle.rb_base.specs.declared.memory.Memory.{Memory}
use Rattle.run_model.specs.Values.{Name, nil_value, array_value, bad_argument, too_long}
use Rattle.run_model.specs.Store.{Heap, with_array}
use Rattle.run_model.specs.Calls.{Call, PrimResult, answers, faults, demands, of_length, makes_array}
use Rattle.run_model.specs.SequencePrimitives.{as_array_class, length_of}
use Rattle.prim_calls.specs.Calls.{World}
use Rattle.prim_calls.specs.Replies.{reply_of}
use Rattle.prim_calls.specs.declared.reply.Reply.{Reply}

-- a reply that is handed on
pub replied : (h : Heap) (f g : World → PrimResult) (r : Result Reply Memory) → ((w : World) → f w ≡ g w) → IfOk r (λ x. (w : World) → reply_of h x ≡ f w) → IfOk r (λ x. (w : World) → reply_of h x ≡ g w)
replied h f g (Ok x) e k = λ w. k w ∙ e w
replied h f g (Err m) e k = k

pub mapped_none : {A B : Type 0} (f : A → B) (o : Option A) → None ≡ option_map f o → None ≡ o
mapped_none f None e = refl
mapped_none {A} {B} f (Some a) e = absurd (true≢false (ap (is_some {T = B}) (sym e)))

pub mapped_some : {A B : Type 0} (b d : B) (o : Option A) → Some b ≡ option_map (λ a. d) o → (a : A) × (Some a ≡ o) × (b ≡ d)
mapped_some {A} {B} b d None e = absurd (true≢false (ap (is_some {T = B}) e))
mapped_some b d (Some a) e = (a, refl, ap (λ o. unwrap_or o b) e)

-- the receiver is the class `Array`
pub is_array : (c : Call) (go : Name → PrimResult) (r : PrimResult) → true ≡ is_some (as_array_class c.receiver) → ((d : Name) → r ≡ go d) → r ≡ demands c (as_array_class c.receiver) go
is_array c go r e h = by (as_array_class c.receiver) e
  where
    by : (o : Option Name) → true ≡ is_some o → r ≡ demands c o go
    by None q = absurd (true≢false q)
    by (Some d) q = h d

pub is_no_array : (c : Call) (go : Name → PrimResult) → false ≡ is_some (as_array_class c.receiver) → faults (bad_argument c.number) ≡ demands c (as_array_class c.receiver) go
is_no_array c go e = by (as_array_class c.receiver) e
  where
    by : (o : Option Name) → false ≡ is_some o → faults (bad_argument c.number) ≡ demands c o go
    by None q = refl
    by (Some d) q = absurd (true≢false (sym q))

pub is_length : (c : Call) (z : ℤ) (go : ℕ → PrimResult) → int_lt z (pos 0) ≡ false → go (nat_abs z) ≡ demands c (length_of z) go
is_length c (pos n) go e = refl
is_length c (negsuc n) go e = absurd (true≢false e)

pub is_no_length : (c : Call) (z : ℤ) (go : ℕ → PrimResult) → int_lt z (pos 0) ≡ true → faults (bad_argument c.number) ≡ demands c (length_of z) go
is_no_length c (pos n) go e = let l : n < 0 = ltb-true n 0 e in absurd (omega (arith, l))
is_no_length c (negsuc n) go e = refl

pub is_too_long : (z : ℤ) (r : PrimResult) → int_lt (pos 65535) z ≡ true → faults too_long ≡ of_length (nat_abs z) r
is_too_long (pos n) r e = sym (ap (λ b. if b then faults too_long else r) e)
is_too_long (negsuc n) r e = absurd (true≢false (sym e))

-- an array of so many nils
abbrev pub nils : Call → ℕ → PrimResult
nils c n = of_length n (answers n None (array_value (length c.heap.arrays)) (with_array c.heap (replicate n nil_value)))

pub nils_made : (c : Call) (n : ℕ) → makes_array c (replicate n nil_value) ≡ nils c n
nils_made c n = ap (λ k. of_length k (answers k None (array_value (length c.heap.arrays)) (with_array c.heap (replicate n nil_value)))) (length-replicate n nil_value)
