-- A report as what the model finds.
use Rattle.fault_model.specs.Findings.{Findings}
use Rattle.suspect_book.specs.declared.report.Report.{Report}

abbrev pub findings_of : Report → Findings
findings_of r = record { suspects = r.suspects; guilty = r.guilty; odd = r.odd; next = r.next }
