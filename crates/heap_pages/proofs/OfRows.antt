-- What a heap's functions need of its rows.
use Rattle.heap_pages.proofs.CutRows.{length-cut_rows, slice_get-cut_rows, row_end, cut_rows-append, cut_rows-append_all}
use Rattle.heap_pages.proofs.PageStarts.{page_start}

pub ruleset of_rows = (length-cut_rows, slice_get-cut_rows, row_end, cut_rows-append, cut_rows-append_all, page_start)
