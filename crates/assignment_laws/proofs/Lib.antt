mod KnownNames
mod AssignedNames
mod ScopesFree
