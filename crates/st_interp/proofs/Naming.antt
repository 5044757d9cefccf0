-- Names that are read and assigned, case by case.
use Rattle.std.proofs.Common.{◌≡◌, ℕ, false, cond, Some, sym, ap, ◌∙◌}
use Rattle.image_model.specs.Image.{ImageOf}
use Rattle.scope_model.specs.SpecialNames.{is_pseudo_variable}
use Rattle.run_model.specs.Values.{Name, Value, not_assignable}
use Rattle.run_model.specs.Store.{Store, Frame, Binding, Result, fine, value_of, same_pair, value_in_cell}
use Rattle.run_model.specs.Acts.{acts, with_memory}
use Rattle.run_model.specs.Reading.{binding_of, reads_pseudo, reads_meaning, reads_binding, reads, assigns_binding, assigns}
use Rattle.st_meaning.specs.BindingView.{binding_from}
use Rattle.st_meaning.specs.declared.context.BindingKind.{BindingKind}
use Rattle.st_meaning.specs.declared.context.BindingKind.TheVariants as kind
use Rattle.st_program.specs.Meaning.{meaning_from}
use Rattle.st_program.specs.declared.meaning.Meaning.{Meaning}
use Rattle.st_program.specs.declared.meaning.Meaning.TheVariants as meaning

-- a temporary
pub read_cell : (b : Binding) (d : BindingKind) (k : ℕ) (v : Value) (i : ImageOf Name) (f : Frame) (n : Name) (s : Store) → binding_from d ≡ b → d ≡ kind.InCell k → v ≡ value_in_cell s.memory k → fine v s ≡ reads_binding acts i f n (Some b) s
unfolding with_memory
read_cell b d k v i f n s q e h = ap (λ x. fine x s) h ∙ ap (λ z. reads_binding acts i f n (Some z) s) (sym (ap binding_from e) ∙ q)

-- a class variable
pub read_shared : (f : Frame) (n n' : Name) (m : Meaning) (d d' : Name) (v : Value) (s : Store) → m ≡ meaning.Shared d → d' ≡ d → n' ≡ n → v ≡ value_of same_pair s.memory.shared (d', n') → fine v s ≡ reads_meaning acts f n (meaning_from m) s
unfolding with_memory
read_shared f n n' m d d' v s e p q h =
    ap (λ x. fine x s) (h ∙ (λ i. value_of same_pair s.memory.shared (p i, q i))) ∙ ap (λ z. reads_meaning acts f n (meaning_from z) s) (sym e)

-- a name that the environment has
pub read_bound : (i : ImageOf Name) (f : Frame) (n m : Name) (b : Binding) (r : Result Value) (s : Store) → m ≡ n → is_pseudo_variable m ≡ false → binding_of f m ≡ Some b → r ≡ reads_binding acts i f m (Some b) s → r ≡ reads acts i f n s
read_bound i f n m b r s q p e h =
    h ∙ ap (λ z. reads_binding acts i f m z s) (sym e) ∙ sym (ap (λ z. (cond z (reads_pseudo acts f m) (reads_binding acts i f m (binding_of f m))) s) p) ∙ ap (λ z. reads acts i f z s) q

-- the same where it is assigned
pub assign_bound : (i : ImageOf Name) (f : Frame) (n m : Name) (v : Value) (b : Binding) (r : Result Value) (s : Store) → m ≡ n → is_pseudo_variable m ≡ false → binding_of f m ≡ Some b → r ≡ assigns_binding acts i f m v (Some b) s → r ≡ assigns acts i f n v s
assign_bound i f n m v b r s q p e h =
    h ∙ ap (λ z. assigns_binding acts i f m v z s) (sym e) ∙ sym (ap (λ z. (cond z (acts.fails (not_assignable m)) (assigns_binding acts i f m v (binding_of f m))) s) p) ∙ ap (λ z. assigns acts i f z v s) q
