pub mod RuledScripts
