use Rattle.service_parts.proofs.AtRest.{configured_home, configured_rest}
use Rattle.service_parts.proofs.service_laws.configurations_come_at_rest.Goals as goal

pub returns-clause-home : goal.returns-clause-home
returns-clause-home c = configured_home

pub returns-clause-rest : goal.returns-clause-rest
returns-clause-rest c = configured_rest
