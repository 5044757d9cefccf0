-- Slots are told apart by their fields.
use Rattle.std.specs.Prelude.{ℕ, List, Bool, Option, refl}
use Rattle.std.specs.Coded.{Coded, code_by, coded×, coded_ℕ, coded_bool, coded_list, coded_option}
use Rattle.st_tree.specs.PartCode.{coded_statement}
use Rattle.st_tree.specs.declared.tree.Statement.{Statement}
use Rattle.st_tree.specs.declared.tree.Sequence.{Sequence}
use Rattle.st_tree.specs.declared.tree.Method.{Method}
use Rattle.class_table.specs.declared.record.ClassRec.{ClassRec}
use Rattle.class_table.specs.declared.record.MethodRec.{MethodRec}
use Rattle.class_table.specs.declared.record.DoIt.{DoIt}
use Rattle.class_table.specs.Slots.{Slots}

-- texts in order
abbrev pub Texts : Type 0
Texts = List (List ℕ)

-- the code of numbers in order, of a text too
abbrev pub coded_numbers : Coded (List ℕ)
coded_numbers = coded_list coded_ℕ

-- the code of texts in order
abbrev pub coded_texts : Coded Texts
coded_texts = coded_list coded_numbers

-- the code of a sequence
abbrev pub coded_sequence : Coded Sequence
coded_sequence =
    code_by (List ℕ × (List Statement × Texts)) (coded× coded_numbers (coded× (coded_list coded_statement) coded_texts))
    (λ s. (s.temporaries, (s.statements, s.tail))) (λ p. record { temporaries = p.0; statements = p.1.0; tail = p.1.1 }) (λ _. refl)

-- the code of a method's tree
abbrev pub coded_method : Coded Method
coded_method =
    code_by (ℕ × (List ℕ × (Texts × (Option ℕ × Sequence))))
    (coded× coded_ℕ (coded× coded_numbers (coded× coded_texts (coded× (coded_option coded_ℕ) coded_sequence))))
    (λ m. (m.selector, (m.arguments, (m.head, (m.primitive, m.body)))))
    (λ p. record { selector = p.0; arguments = p.1.0; head = p.1.1.0; primitive = p.1.1.1.0; body = p.1.1.1.1 }) (λ _. refl)

-- the code of a class
abbrev pub coded_class_rec : Coded ClassRec
coded_class_rec =
    code_by (ℕ × (Option ℕ × (List ℕ × (List ℕ × (List ℕ × (List ℕ × (List ℕ × Bool)))))))
    (coded× coded_ℕ (coded× (coded_option coded_ℕ) (coded× coded_numbers (coded× coded_numbers (coded× coded_numbers (coded× coded_numbers (coded× coded_numbers coded_bool)))))))
    (λ c. (c.name, (c.superclass, (c.instance, (c.shared, (c.class_side, (c.category, (c.comment, c.kernel))))))))
    (λ p. record {
      name = p.0;
      superclass = p.1.0;
      instance = p.1.1.0;
      shared = p.1.1.1.0;
      class_side = p.1.1.1.1.0;
      category = p.1.1.1.1.1.0;
      comment = p.1.1.1.1.1.1.0;
      kernel = p.1.1.1.1.1.1.1;
    }) (λ _. refl)

-- the code of a method
abbrev pub coded_method_rec : Coded MethodRec
coded_method_rec =
    code_by (ℕ × (Bool × (List ℕ × (List ℕ × (Method × Bool)))))
    (coded× coded_ℕ (coded× coded_bool (coded× coded_numbers (coded× coded_numbers (coded× coded_method coded_bool)))))
    (λ m. (m.class, (m.meta, (m.protocol, (m.source, (m.tree, m.kernel))))))
    (λ p. record { class = p.0; meta = p.1.0; protocol = p.1.1.0; source = p.1.1.1.0; tree = p.1.1.1.1.0; kernel = p.1.1.1.1.1 }) (λ _. refl)

-- the code of a do-it
abbrev pub coded_doit : Coded DoIt
coded_doit =
    code_by (List ℕ × Sequence) (coded× coded_numbers coded_sequence) (λ d. (d.source, d.body))
    (λ p. record { source = p.0; body = p.1 }) (λ _. refl)

-- the code of slots
abbrev pub coded_slots : Coded Slots
coded_slots =
    code_by (Texts × (List ClassRec × (List ℕ × (List MethodRec × (List ℕ × (List DoIt × ℕ))))))
    (coded× coded_texts (coded× (coded_list coded_class_rec) (coded× coded_numbers (coded× (coded_list coded_method_rec) (coded× coded_numbers (coded× (coded_list coded_doit) coded_ℕ))))))
    (λ s. (s.names, (s.classes, (s.class_order, (s.methods, (s.method_order, (s.doits, s.heads)))))))
    (λ p. record {
      names = p.0;
      classes = p.1.0;
      class_order = p.1.1.0;
      methods = p.1.1.1.0;
      method_order = p.1.1.1.1.0;
      doits = p.1.1.1.1.1.0;
      heads = p.1.1.1.1.1.1;
    }) (λ _. refl)
