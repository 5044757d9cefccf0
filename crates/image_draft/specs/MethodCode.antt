-- Methods are told apart by their fields.
use Rattle.std.specs.Prelude.{ℕ, List, Bool, refl}
use Rattle.std.specs.Coded.{Coded, code_by, coded×, coded_ℕ, coded_bool, coded_list}
use Rattle.st_tree.specs.declared.tree.Method.{Method}
use Rattle.class_table.specs.SlotsCode.{coded_numbers, coded_method}
use Rattle.image_draft.specs.declared.method_draft.MethodDraft.{MethodDraft}

-- the code of a method
abbrev pub coded_method_draft : Coded MethodDraft
coded_method_draft =
    code_by (ℕ × (Bool × (List ℕ × (List ℕ × (Method × Bool)))))
    (coded× coded_ℕ (coded× coded_bool (coded× coded_numbers (coded× coded_numbers (coded× coded_method coded_bool)))))
    (λ m. (m.class, (m.meta, (m.protocol, (m.source, (m.tree, m.kernel))))))
    (λ p. record { class = p.0; meta = p.1.0; protocol = p.1.1.0; source = p.1.1.1.0; tree = p.1.1.1.1.0; kernel = p.1.1.1.1.1 }) (λ _. refl)

-- the code of methods in order
abbrev pub coded_methods : Coded (List MethodDraft)
coded_methods = coded_list coded_method_draft
