use Rattle.std.proofs.Common.{◌∙◌, arith}
use Rattle.use_index.proofs.FreshLemmas.{uses-after, used_after-same}
use Rattle.use_index.specs.Index.{IsUseIndexOf}
use Rattle.use_index.proofs.index.UseIndex.update.Goals as goal

pub returns-in-Ok-clause-ok : goal.returns-in-Ok-clause-ok
returns-in-Ok-clause-ok g c =
    λ s index differs.
    let known : IsUseIndexOf s (record { names = c.self.inside.names; uses = c.self.inside.rows }) = rw c.self.view_is index in
    record {
      names = c.in-Ok.ensures.ok s known.names differs.names;
      uses =
          λ p.
          c.set_all.ensures p
          ∙ used_after-same c.self.inside.rows c.reach_all.new.self c.in_ok-fresh.fresh.items p (c.reach_all.ensures.same p)
          ∙ uses-after s c.args.image.now c.self.inside.rows c.args.touched.now c.in_ok-fresh.fresh.items known.uses differs.uses c.in_ok-fresh.ensures.places c.in_ok-fresh.ensures.uses p;
    }

pub returns-in-Ok-clause-steps : goal.returns-in-Ok-clause-steps
returns-in-Ok-clause-steps g c = omega (arith, c.fresh_uses.ensures.steps, c.update.ensures.steps)

pub returns-in-Err-clause-steps : goal.returns-in-Err-clause-steps
returns-in-Err-clause-steps g c = omega (arith, c.fresh_uses.ensures.steps, c.update.ensures.steps)
