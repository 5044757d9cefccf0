use Rattle.std.proofs.Common.{◌∙◌, ℕ, List, length, ap, map, sym, arith}
use Rattle.std.proofs.lemmas.List.{take_all}
use Rattle.std.proofs.lemmas.Result.{on_ok_weaker, on_err_weaker, err_from_is_err_and}
use Rattle.class_table.specs.Slots.{Slots}
use Rattle.class_table.specs.View.{image_of}
use Rattle.canonical_image.specs.Sources.{canonical_rec, canonical_doit_rec, all_changed, first_changed}
use Rattle.canonical_image.proofs.Views.{all_formatted}
use Rattle.canonical_image.proofs.format.format_counted.Goals as goal

pub returns-clause-formatted : goal.returns-clause-formatted
returns-clause-formatted g c =
    on_ok_weaker c.format_doits.result
    (λ e. ap image_of (e ∙ ap (λ (m : Slots). let t : Slots = record m { doits = map (canonical_doit_rec m.names) m.doits } in t) c.in_ok-format_methods.ensures.methods) ∙ all_formatted c.args.image.now)
    c.format_doits.ensures.doits

pub returns-in_err-format_methods-clause-part : goal.returns-in_err-format_methods-clause-part
returns-in_err-format_methods-clause-part g c =
    let e = err_from_is_err_and c.from_residual.result c.from_residual.ensures.1 in
    let part = c.in_err-format_methods.ensures.part in
    rw e.1 (part.0, 0, part.1)

pub returns-clause-part : goal.returns-clause-part
returns-clause-part g c =
    let s = c.args.image.now in
    on_err_weaker c.format_doits.result
    (λ part. (
      length s.method_order,
      part.0,
      part.1
          ∙ ap (λ (m : Slots). let t : Slots = record m { doits = first_changed (canonical_doit_rec m.names) part.0 m.doits } in t) c.in_ok-format_methods.ensures.methods
          ∙ ap (λ (ks : List ℕ). let t : Slots = record s { methods = all_changed (canonical_rec s.names) s.methods ks; doits = first_changed (canonical_doit_rec s.names) part.0 s.doits } in t) (sym (take_all (length s.method_order) s.method_order (omega arith))),
    ))
    c.format_doits.ensures.part
