-- Each promise determines its call: it is the promise of the library's call, word for word, and so the library's theorem serves.
use Rattle.promise.specs.Determines.{Determines}
use Rattle.bench_entries.proofs.Determined as library
use Rattle.bench_entries_c.specs.contracts.bench_sort as sort-fn
use Rattle.bench_entries_c.proofs.bench_sort.Reads as sort
use Rattle.bench_entries_c.specs.contracts.bench_build as build-fn
use Rattle.bench_entries_c.proofs.bench_build.Reads as build
use Rattle.bench_entries_c.specs.contracts.bench_make_directory as make-directory-fn
use Rattle.bench_entries_c.proofs.bench_make_directory.Reads as make-directory
use Rattle.bench_entries_c.specs.contracts.bench_first_line as first-line-fn
use Rattle.bench_entries_c.proofs.bench_first_line.Reads as first-line
use Rattle.bench_entries_c.specs.contracts.bench_next_lines as next-lines-fn
use Rattle.bench_entries_c.proofs.bench_next_lines.Reads as next-lines

pub bench_sort_determined : Determines sort-fn.ended sort.Asked sort.Learnt
bench_sort_determined = library.bench_sort_determined

pub bench_build_determined : Determines build-fn.ended build.Asked build.Learnt
bench_build_determined = library.bench_build_determined

pub bench_make_directory_determined : Determines make-directory-fn.ended make-directory.Asked make-directory.Learnt
bench_make_directory_determined = library.bench_make_directory_determined

pub bench_first_line_determined : Determines first-line-fn.ended first-line.Asked first-line.Learnt
bench_first_line_determined = library.bench_first_line_determined

pub bench_next_lines_determined : Determines next-lines-fn.ended next-lines.Asked next-lines.Learnt
bench_next_lines_determined = library.bench_next_lines_determined
