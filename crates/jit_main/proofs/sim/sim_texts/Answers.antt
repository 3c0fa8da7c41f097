use Rattle.jit_main.proofs.sim.sim_texts.Goals as goal

pub returns-in-Ok-report_lines-clause-text : goal.returns-in-Ok-report_lines-clause-text
returns-in-Ok-report_lines-clause-text c = record {
  program = c.in-Ok.front.checked;
  list = c.in-Ok.front.calls;
  report = c.in-Ok-drawn_report.report;
  is_module = c.in-Ok.ensures.found.is_module;
  is_calls = c.in-Ok.ensures.found.is_calls;
  ran = rw (← c.as_slice.ensures) c.in-Ok-drawn_report.ensures.report;
  lines = rw (← c.as_slice-2.ensures) c.in-Ok-report_lines.ensures.lines;
  status = c.in-Ok-report_lines.ensures.status;
}
