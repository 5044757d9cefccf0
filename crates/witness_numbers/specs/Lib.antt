pub mod MappedWitnesses
