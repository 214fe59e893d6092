-- The search, and its answer reported.
use Rattle.host.specs.Findings.{searched-on}
use Rattle.host.proofs.tariff_how.Goals as goal

pub returns : goal.returns
returns c = searched-on _ _ _ _ _ _ _ _ _ _ _ c.search-finding.ensures c.report_finding.ensures
