-- What passes an exit on.
use Rattle.std.proofs.Common.{◌≡◌, ◌≢◌, ℕ, List, sym, ap, ◌∙◌}
use Rattle.std.specs.Prelude.{if◌then◌else◌}
use Rattle.std.proofs.lemmas.Bool.{ne_eqb, eq-eqb}
use Rattle.image_model.specs.Image.{ImageOf}
use Rattle.run_model.specs.Values.{Name, Value}
use Rattle.run_model.specs.Store.{Store, returns, fine, leaves, without_home}
use Rattle.run_model.specs.Acts.{ended, out_of_home}
use Rattle.st_meaning.specs.StoreView.{changed_by}
use Rattle.st_interp.specs.Machine.{plug}
use Rattle.st_interp.specs.declared.state.Pending.{Pending}

-- a return to this home
pub exit_home : (i : ImageOf Name) (names : List Name) (ks : List Pending) (h k : ℕ) (v : Value) (s s' : Store) → k ≡ h → s' ≡ changed_by (λ m. without_home m h) s
    → plug i names ks (fine v s') ≡ plug i names ks (out_of_home h (leaves (returns k v) s))
exit_home i names ks h k v s s' e q =
    ap (λ z. plug i names ks (fine v z)) q ∙ ap (λ b. plug i names ks (if b then fine v (ended h s) else leaves (returns k v) (ended h s))) (sym (eq-eqb k h e))

-- a return to another home
pub exit_passed : (i : ImageOf Name) (names : List Name) (ks : List Pending) (h k : ℕ) (v : Value) (s s' : Store) → k ≢ h → s' ≡ changed_by (λ m. without_home m h) s
    → plug i names ks (leaves (returns k v) s') ≡ plug i names ks (out_of_home h (leaves (returns k v) s))
exit_passed i names ks h k v s s' e q =
    ap (λ z. plug i names ks (leaves (returns k v) z)) q ∙ ap (λ b. plug i names ks (if b then fine v (ended h s) else leaves (returns k v) (ended h s))) (sym (ne_eqb k h e))
