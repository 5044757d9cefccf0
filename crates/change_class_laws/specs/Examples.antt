-- Pairs of images and the change files between them. The trees of methods and do-its are left out: no text is written from them, but for selectors.
use Rattle.std.specs.Prelude.{List, [], ◌∷◌, codes, Bool, true, false, Some, None}
use Rattle.tree_model.specs.Tree.{no_statements}
use Rattle.image_model.specs.Image.{ClassOf, EntryOf, DoItOf, ImageOf}
use Rattle.file_model.specs.Filing.{Text}

-- two images and the text of the change file that makes the second of the first
pub record Example : Type 0 where
  pub before : ImageOf Text
  pub after : ImageOf Text
  pub text : Text

-- a class of the user: its name, its superclass, its variables of the three kinds, its category and its comment
abbrev class : Text → Text → List Text → List Text → List Text → Text → Text → ClassOf Text
class name above instance shared class_side category comment = record {
  name = name;
  superclass = Some above;
  instance = instance;
  shared = shared;
  class_side = class_side;
  category = category;
  comment = comment;
  kernel = false;
}

-- `Object`, which is of the kernel
abbrev root : ClassOf Text
root = record {
  name = codes "Object";
  superclass = None;
  instance = [];
  shared = [];
  class_side = [];
  category = [];
  comment = [];
  kernel = true;
}

-- a method of the user: its class, its side, its protocol, its selector and its source
abbrev method : Text → Bool → Text → Text → Text → EntryOf Text
method class meta protocol selector source = record {
  class = Some class;
  meta = meta;
  protocol = protocol;
  source = source;
  tree = record { selector = selector; arguments = []; head = []; primitive = None; body = record { temporaries = []; statements = no_statements; tail = [] } };
  kernel = false;
}

-- a do-it
abbrev doit : Text → DoItOf Text
doit source = record { source = source; body = record { temporaries = []; statements = no_statements; tail = [] } }

-- an image behind `Object`
abbrev image : List (ClassOf Text) → List (EntryOf Text) → List (DoItOf Text) → ImageOf Text
image classes methods doits = record { classes = root ∷ classes; methods = methods; doits = doits; heads = 0 }

-- a class gets another name
abbrev pub renamed : Example
renamed = record {
  before = image
      (class (codes "Account") (codes "Object") [] [] [] (codes "T") [] ∷ [])
      (method (codes "Account") false (codes "m") (codes "balance") (codes "balance\n\t^3") ∷ [])
      (doit (codes "Account new balance") ∷ []);
  after = image
      (class (codes "Ledger") (codes "Object") [] [] [] (codes "T") [] ∷ [])
      (method (codes "Ledger") false (codes "m") (codes "balance") (codes "balance\n\t^3") ∷ [])
      (doit (codes "Ledger new balance") ∷ []);
  text = codes "\n!\n\nSmalltalk settlePlaces!\n\nSmalltalk removeClassNamed: #Account!\n\nObject subclass: #Ledger\n\tinstanceVariableNames: ''\n\tclassVariableNames: ''\n\tpoolDictionaries: ''\n\tcategory: 'T'\n\tat: 1!\n\nLedger comment: ''!\n\n!Ledger methodsFor: 'm' at: 1!\nbalance\n\t^3! !\n\nSmalltalk replaceDoIt: 1 with: 'Ledger new balance'!\n\n";
}

-- Two classes change places, variables and comments, two go, one comes and one stays; methods change their protocol, change places, come and go, also with their class and from `Object`; and a do-it changes.
abbrev pub all_kinds : Example
all_kinds = record {
  before = image
      (class (codes "A") (codes "Object") (codes "a" ∷ []) [] [] (codes "T") (codes "old")
      ∷ class (codes "B") (codes "A") (codes "b" ∷ []) [] (codes "n" ∷ []) (codes "T") []
      ∷ class (codes "C") (codes "Object") [] [] [] (codes "T") []
      ∷ class (codes "D") (codes "Object") [] (codes "K" ∷ []) [] (codes "T") []
      ∷ class (codes "E") (codes "C") [] [] [] (codes "T") [] ∷ [])
      (method (codes "A") false (codes "m") (codes "one") (codes "one\n\t^1")
      ∷ method (codes "A") true (codes "m") (codes "two") (codes "two\n\t^2")
      ∷ method (codes "B") false (codes "m") (codes "gone:") (codes "gone: x\n\t^x")
      ∷ method (codes "C") false (codes "m") (codes "go") (codes "go\n\t^3")
      ∷ method (codes "D") false (codes "m") (codes "kept") (codes "kept\n\t^4")
      ∷ method (codes "Object") false (codes "m") (codes "+") (codes "+ x\n\t^x") ∷ [])
      (doit (codes "3 + 4") ∷ doit (codes "A new one") ∷ []);
  after = image
      (class (codes "B") (codes "Object") [] [] (codes "m" ∷ codes "k" ∷ []) (codes "U") []
      ∷ class (codes "A") (codes "B") (codes "b" ∷ []) [] [] (codes "T") (codes "it's new!")
      ∷ class (codes "D") (codes "Object") [] (codes "K" ∷ []) [] (codes "T") []
      ∷ class (codes "F") (codes "D") [] (codes "S" ∷ []) [] [] [] ∷ [])
      (method (codes "A") false (codes "n") (codes "one") (codes "one\n\t^1")
      ∷ method (codes "D") false (codes "m") (codes "kept") (codes "kept\n\t^4")
      ∷ method (codes "A") true (codes "m") (codes "two") (codes "two\n\t^2")
      ∷ method (codes "F") true (codes "m") (codes "now") (codes "now\n\t^'!'") ∷ [])
      (doit (codes "3 + 4") ∷ doit (codes "A new one; one") ∷ []);
  text = codes "\n!\n\nSmalltalk settlePlaces!\n\nObject subclass: #A\n\tinstanceVariableNames: ''\n\tclassVariableNames: ''\n\tpoolDictionaries: ''\n\tcategory: 'T'!\n\nA class instanceVariableNames: ''!\n\nObject subclass: #B\n\tinstanceVariableNames: ''\n\tclassVariableNames: ''\n\tpoolDictionaries: ''\n\tcategory: 'U'!\n\nB class instanceVariableNames: ''!\n\nSmalltalk removeClassNamed: #E!\n\nSmalltalk removeClassNamed: #C!\n\nObject subclass: #B\n\tinstanceVariableNames: ''\n\tclassVariableNames: ''\n\tpoolDictionaries: ''\n\tcategory: 'U'\n\tat: 1!\n\nB class instanceVariableNames: 'm k'!\n\nB comment: ''!\n\nB subclass: #A\n\tinstanceVariableNames: 'b'\n\tclassVariableNames: ''\n\tpoolDictionaries: ''\n\tcategory: 'T'\n\tat: 2!\n\nA comment: 'it''s new!!'!\n\nD subclass: #F\n\tinstanceVariableNames: ''\n\tclassVariableNames: 'S'\n\tpoolDictionaries: ''\n\tcategory: ''\n\tat: 4!\n\nF comment: ''!\n\nB removeSelector: #gone:!\n\nObject removeSelector: #+!\n\n!A methodsFor: 'n' at: 1!\none\n\t^1! !\n\n!D methodsFor: 'm' at: 2!\nkept\n\t^4! !\n\n!A class methodsFor: 'm' at: 3!\ntwo\n\t^2! !\n\n!F class methodsFor: 'm' at: 4!\nnow\n\t^'!!'! !\n\nSmalltalk replaceDoIt: 2 with: 'A new one; one'!\n\n";
}
