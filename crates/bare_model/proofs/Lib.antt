mod BareStores
mod BareShapes
mod BareRuns
