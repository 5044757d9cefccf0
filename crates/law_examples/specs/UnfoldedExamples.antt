-- Small images before and after. A send to self is inlined: its method has an argument, and answers a block with a parameter, that argument and an instance variable. An expression becomes a method. And a variable is read and assigned by a getter and a setter.
use Rattle.std.specs.Prelude.{List, [], ◌∷◌, Bool, true, false, Option, Some, None, codes}
use Rattle.tree_model.specs.Tree.{number, TreeOf, var, literal, send, assign, block, return, no_trees, more_trees, no_statements, more_statements, SequenceOf}
use Rattle.tree_model.specs.Path.{method_replaced}
use Rattle.image_model.specs.Image.{ClassOf, EntryOf, ImageOf}
use Rattle.run_model.specs.Values.{Name}

abbrev pub example_class : Bool → Name → Option Name → List Name → ClassOf Name
example_class kernel n superclass instance = record { name = n; superclass = superclass; instance = instance; shared = []; class_side = []; category = []; comment = []; kernel = kernel }

-- a message with one argument
abbrev pub with_one : TreeOf Name → Name → TreeOf Name → TreeOf Name
with_one r s t = send r s (more_trees t no_trees)

abbrev pub one_statement : TreeOf Name → SequenceOf Name
one_statement t = record { temporaries = []; statements = more_statements [] t no_statements; tail = [] }

-- a method of Account that answers an expression
abbrev pub answers : Name → Name → TreeOf Name → EntryOf Name
answers s x t =
    record { class = Some (codes "Account"); meta = false; protocol = []; source = []; tree = record { selector = s; arguments = x ∷ []; head = []; primitive = None; body = one_statement (return t) }; kernel = false }

-- [:k | k + x + balance]
abbrev pub adding : Name → TreeOf Name
adding x = block (codes "k" ∷ []) [] (more_statements [] (with_one (with_one (var (codes "k")) (codes "+") (var x)) (codes "+") (var (codes "balance"))) no_statements) []

-- adder: x  ^[:k | k + x + balance]
abbrev pub adder : EntryOf Name
adder = answers (codes "adder:") (codes "x") (adding (codes "x"))

-- self adder: y
abbrev pub sending_adder : TreeOf Name
sending_adder = with_one (var (codes "self")) (codes "adder:") (var (codes "y"))

-- after: y  ^(self adder: y) value: 3
abbrev pub user_method : EntryOf Name
user_method = answers (codes "after:") (codes "y") (with_one sending_adder (codes "value:") (literal (number (codes "3"))))

-- Object, and Account with an instance variable; a do-it runs the method
abbrev pub example_before : ImageOf Name
example_before = record {
  classes = example_class true (codes "Object") None [] ∷ example_class false (codes "Account") (Some (codes "Object")) (codes "balance" ∷ []) ∷ [];
  methods = adder ∷ user_method ∷ [];
  doits = record { source = []; body = one_statement (with_one (send (var (codes "Account")) (codes "new") no_trees) (codes "after:") (literal (number (codes "4")))) } ∷ [];
  heads = 0;
}

-- after: y  ^[:k | k + y + balance] value: 3
abbrev pub example_after : ImageOf Name
example_after = record example_before {
  methods = adder ∷ record user_method { tree = method_replaced user_method.tree (0 ∷ 0 ∷ 0 ∷ []) (adding (codes "y")) } ∷ [];
}

-- after: y  ^[:k | k + y + balance] value: 3, alone in its class
abbrev pub whole_method : EntryOf Name
whole_method = answers (codes "after:") (codes "y") (with_one (adding (codes "y")) (codes "value:") (literal (number (codes "3"))))

abbrev pub example_whole : ImageOf Name
example_whole = record example_before { methods = whole_method ∷ [] }

-- adder: y  ^[:k | k + y + balance]
abbrev pub new_adder : EntryOf Name
new_adder = answers (codes "adder:") (codes "y") (adding (codes "y"))

-- the block extracted as that method
abbrev pub example_extracted : ImageOf Name
example_extracted = record example_before { methods = record whole_method { tree = method_replaced whole_method.tree (0 ∷ 0 ∷ 0 ∷ []) sending_adder } ∷ new_adder ∷ [] }

-- deposit: y  balance := balance + y
abbrev pub depositing : EntryOf Name
depositing = record {
  class = Some (codes "Account");
  meta = false;
  protocol = [];
  source = [];
  tree = record { selector = codes "deposit:"; arguments = codes "y" ∷ []; head = []; primitive = None; body = one_statement (assign (codes "balance") (with_one (var (codes "balance")) (codes "+") (var (codes "y")))) };
  kernel = false;
}

-- balance  ^balance
abbrev pub balance_reader : EntryOf Name
balance_reader =
    record { class = Some (codes "Account"); meta = false; protocol = []; source = []; tree = record { selector = codes "balance"; arguments = []; head = []; primitive = None; body = one_statement (return (var (codes "balance"))) }; kernel = false }

-- balance: v  ^balance := v
abbrev pub balance_writer : EntryOf Name
balance_writer = answers (codes "balance:") (codes "v") (assign (codes "balance") (var (codes "v")))

abbrev pub example_plain : ImageOf Name
example_plain = record example_before { methods = depositing ∷ [] }

-- deposit: y  self balance: self balance + y, and the accessors
abbrev pub example_accessed : ImageOf Name
example_accessed = record example_before {
  methods =
      record depositing {
        tree = record depositing.tree {
          body = one_statement (with_one (var (codes "self")) (codes "balance:") (with_one (send (var (codes "self")) (codes "balance") no_trees) (codes "+") (var (codes "y"))));
        };
      }
      ∷ balance_reader ∷ balance_writer ∷ [];
}
