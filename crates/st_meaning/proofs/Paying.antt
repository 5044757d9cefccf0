-- Ticks that are wanted.
use Rattle.std.proofs.Common.{◌≡◌, ℕ, ◌-◌, ◌<◌, ◌≤◌, if◌then◌else◌, sym, ap}
use Rattle.std.proofs.lemmas.Bool.{le-leb, lt-leb}
use Rattle.run_model.specs.Store.{Store, fine, leaves, out_of_ticks}
use Rattle.run_model.specs.Acts.{pays}

pub pays_left : {A : Type 0} (n : ℕ) (a : A) (s : Store) → n ≤ s.ticks → fine a (record s { ticks = s.ticks - n }) ≡ pays n a s
unfolding pays
pays_left n a s l = sym (ap (λ b. if b then fine a (record s { ticks = s.ticks - n }) else leaves out_of_ticks (record s { ticks = 0 })) (le-leb n s.ticks l))

pub pays_all : {A : Type 0} (n : ℕ) (a : A) (s : Store) → s.ticks < n → leaves out_of_ticks (record s { ticks = 0 }) ≡ pays n a s
unfolding pays
pays_all n a s l = sym (ap (λ b. if b then fine a (record s { ticks = s.ticks - n }) else leaves out_of_ticks (record s { ticks = 0 })) (lt-leb n s.ticks l))
