-- What a text spells in either dialect its canonical text spells in the second, without a fault, and spells nothing else.
use Rattle.std.proofs.Common.{◌≡◌, ◌↔◌, Bool, subst, sym}
use Rattle.token_model.specs.declared.kind.Dialect.{Dialect}
use Rattle.token_model.specs.declared.kind.Dialect.TheVariants.{First, Second}
use Rattle.tree_model.specs.Tree.{SequenceOf, MethodOf}
use Rattle.text_model.specs.Whole.{canonical_method, canonical_doit}
use Rattle.grammar_model.specs.Terminal.{Text}
use Rattle.grammar_model.specs.Whole.{DoIt, Method}
use Rattle.grammar_model.specs.Checks.{Fault}
use Rattle.grammar_model.specs.Spelling.{SpellsDoIt, SpellsMethod, HasFirstFault}
use Rattle.grammar_model.proofs.Dialects.{doit_second, method_second}
use Rattle.grammar_model.proofs.Texts.{no_fault_DoIt, no_fault_Method, one_SpellsDoIt, one_SpellsMethod}
use Rattle.reread_law.specs.WholeTrees.{WellFormedDoIt, WellFormedMethod}
use Rattle.reread_law.proofs.Starting.{well_formed_doit, doit_again}
use Rattle.reread_law.proofs.Methods.{well_formed_method, method_again}

-- a do-it of either dialect
pub doit_law : (d : Dialect) (t : Text) (s : SequenceOf Text) → SpellsDoIt d t s → SpellsDoIt Second (canonical_doit s) s
doit_law First t s h = doit_again s (well_formed_doit t s (doit_second t s h))
doit_law Second t s h = doit_again s (well_formed_doit t s h)

-- a method of either dialect
pub method_law : (d : Dialect) (kernel : Bool) (t : Text) (m : MethodOf Text) → SpellsMethod d kernel t m → SpellsMethod Second kernel (canonical_method m) m
method_law First kernel t m h = method_again kernel m (well_formed_method kernel t m (method_second kernel t m h))
method_law Second kernel t m h = method_again kernel m (well_formed_method kernel t m h)

-- the canonical text of a do-it has no fault
pub no_fault_doit : (d : Dialect) (t : Text) (s : SequenceOf Text) (fault : Fault) → SpellsDoIt d t s → ¬ HasFirstFault Second DoIt (canonical_doit s) fault
no_fault_doit d t s fault h = no_fault_DoIt Second (canonical_doit s) s fault (doit_law d t s h)

-- nor has that of a method
pub no_fault_method : (d : Dialect) (kernel : Bool) (t : Text) (m : MethodOf Text) (fault : Fault) → SpellsMethod d kernel t m → ¬ HasFirstFault Second (Method kernel) (canonical_method m) fault
no_fault_method d kernel t m fault h = no_fault_Method Second kernel (canonical_method m) m fault (method_law d kernel t m h)

-- do-its with one canonical text are one
pub one_doit : (d e : Dialect) (t u : Text) (s r : SequenceOf Text) → SpellsDoIt d t s → SpellsDoIt e u r → canonical_doit s ≡ canonical_doit r → s ≡ r
one_doit d e t u s r h g same = one_SpellsDoIt Second (canonical_doit s) s r (doit_law d t s h) (subst (λ x. SpellsDoIt Second x r) (sym same) (doit_law e u r g))

-- so are methods
pub one_method : (d e : Dialect) (kernel : Bool) (t u : Text) (m n : MethodOf Text) → SpellsMethod d kernel t m → SpellsMethod e kernel u n → canonical_method m ≡ canonical_method n → m ≡ n
one_method d e kernel t u m n h g same = one_SpellsMethod Second kernel (canonical_method m) m n (method_law d kernel t m h) (subst (λ x. SpellsMethod Second kernel x n) (sym same) (method_law e kernel u n g))

-- some text spells a do-it exactly where it is well formed
pub doit_exactly : (s : SequenceOf Text) → ((t : Text) × SpellsDoIt Second t s) ↔ WellFormedDoIt s
doit_exactly s = (λ h. well_formed_doit h.0 s h.1, λ g. (canonical_doit s, doit_again s g))

-- so it is with a method
pub method_exactly : (kernel : Bool) (m : MethodOf Text) → ((t : Text) × SpellsMethod Second kernel t m) ↔ WellFormedMethod kernel m
method_exactly kernel m = (λ h. well_formed_method kernel h.0 m h.1, λ g. (canonical_method m, method_again kernel m g))
